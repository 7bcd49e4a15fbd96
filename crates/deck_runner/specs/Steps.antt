-- A run as steps: each statement answers and leaves what it should, or a fault has marred it. All
-- of this is ours.
use Rattle.std.specs.Prelude.{◌≡◌, ℕ, suc, Bool, true, false, List, [], ◌∷◌, ◌++◌, slice_get, Option, Some}
use Rattle.std.specs.Prelude.{None, is_some, ◌⊎◌, if◌then◌else◌}
use Rattle.std.specs.List.{list_all}
use Rattle.verbs.specs.Connector.{Outcome}
use Rattle.io_state.specs.declared.statement.FileStatement.{FileStatement}
use Rattle.io_state.specs.declared.statement.FileStatement.TheVariants.{Close}
use Rattle.verbs.specs.Marred.{Step}
use Rattle.deck_reader.specs.declared.statement.Statement.{Statement}
use Rattle.deck_reader.specs.declared.statement.Statement.TheVariants.{Perform, Move, MoveLength}
use Rattle.deck_reader.specs.declared.statement.Statement.TheVariants.{StopRun}
use Rattle.deck_runner.specs.Line.{Line, is_clean}
use Rattle.deck_runner.specs.Run.{RunFile, Run, change_at, items_after_read, after_statement, lines_of_run}
use Rattle.deck_runner.specs.Run.{after_run}
use Rattle.deck_runner.specs.Running.{length_for}

-- ---- a statement

-- the line of a statement on a file
abbrev pub line_by : FileStatement → RunFile → Outcome → Line
line_by statement file outcome =
    record { statement = statement; name = file.name; status = outcome.status; delivered = outcome.delivered }

-- a file after a statement
abbrev pub left_by : Outcome → RunFile → RunFile
left_by outcome file = record file { state = outcome.next }

-- the run after a statement on the file of a place, with what it left
abbrev pub run_by : ℕ → Option ℕ → Outcome → Run → Run
run_by u depends_on outcome run = record {
  files = change_at u (left_by outcome) run.files;
  items = items_after_read depends_on outcome.delivered run.items;
}

-- a statement on the file of a place: a step of that file, which has a line. All other files are as they were
abbrev pub IsStepOn : FileStatement → ℕ → Option RunFile → Run → List Line → Run → Type 0
IsStepOn statement u None run lines next = (lines ≡ []) × (next ≡ run)
IsStepOn statement u (Some file) run lines next =
    (outcome : Outcome)
    × Step statement (length_for run.items file.state.connector.schema file.depends_on) file.state outcome
    × (lines ≡ line_by statement file outcome ∷ []) × (next ≡ run_by u file.depends_on outcome run)

-- a statement with its lines: a MOVE has none, and no fault mars it
abbrev pub IsStep : Statement → Run → List Line → Run → Type 0
IsStep (Perform u statement) run lines next = IsStepOn statement u (slice_get run.files u) run lines next
IsStep (Move u field source) run lines next = (lines ≡ [])
    × (next ≡ after_statement (Move u field source) run)
IsStep (MoveLength i source) run lines next = (lines ≡ [])
    × (next ≡ after_statement (MoveLength i source) run)
IsStep StopRun run lines next = (lines ≡ []) × (next ≡ run)

-- statements one after another, with their lines, where each is a step of this kind
abbrev pub AreStepsOf : {X : Type 0} → (Statement → X → List Line → X → Type 0) → List Statement → X
    → List Line → X → Type 0
AreStepsOf IsOne [] run lines next = (lines ≡ []) × (next ≡ run)
AreStepsOf {X} IsOne (statement ∷ rest) run lines next =
    (first : List Line) × (between : X) × (others : List Line)
    × IsOne statement run first between × AreStepsOf IsOne rest between others next
    × (lines ≡ first ++ others)

abbrev pub AreSteps : List Statement → Run → List Line → Run → Type 0
AreSteps = AreStepsOf IsStep

-- ---- a run

abbrev pub is_stop : Statement → Bool
is_stop StopRun = true
is_stop _ = false

-- the statements up to STOP RUN
abbrev pub until_stop : List Statement → List Statement
until_stop [] = []
until_stop (statement ∷ rest) = if is_stop statement then [] else statement ∷ until_stop rest

abbrev pub is_still_open : RunFile → Bool
is_still_open file = is_some file.state.connector.session

-- the close of the file of a place, if it is still open
abbrev pub close_of : ℕ → RunFile → List Statement
close_of u file = if is_still_open file then Perform u (Close false) ∷ [] else []

abbrev pub close_at : ℕ → Option RunFile → List Statement
close_at u None = []
close_at u (Some file) = close_of u file

-- the closes of the files still open, of which the first has this place
abbrev pub closes_from : ℕ → List RunFile → List Statement
closes_from u [] = []
closes_from u (file ∷ files) = close_of u file ++ closes_from (suc u) files

-- a whole run of such steps: the statements up to STOP RUN, and then the closes of the files that
-- are open there
abbrev pub IsRunOf : {X : Type 0} → (Statement → X → List Line → X → Type 0) → (X → List Statement)
    → List Statement → X → List Line → X → Type 0
IsRunOf {X} IsOne closes statements run lines next =
    (stopped : X) × (first : List Line) × (others : List Line)
    × AreStepsOf IsOne (until_stop statements) run first stopped
    × AreStepsOf IsOne (closes stopped) stopped others next × (lines ≡ first ++ others)

-- some such steps, from the first statement on
abbrev pub AreStepsInPart : {X : Type 0} → (Statement → X → List Line → X → Type 0) → List Statement → X
    → List Line → X → Type 0
AreStepsInPart IsOne statements run lines next =
    (done : List Statement) × (rest : List Statement) × (statements ≡ done ++ rest)
    × AreStepsOf IsOne done run lines next

-- a run that was broken off, before STOP RUN or among the closes
abbrev pub IsRunInPart : {X : Type 0} → (Statement → X → List Line → X → Type 0) → (X → List Statement)
    → List Statement → X → List Line → X → Type 0
IsRunInPart {X} IsOne closes statements run lines next =
    AreStepsInPart IsOne (until_stop statements) run lines next
    ⊎ ((stopped : X) × (first : List Line) × (others : List Line)
    × AreStepsOf IsOne (until_stop statements) run first stopped
    × AreStepsInPart IsOne (closes stopped) stopped others next × (lines ≡ first ++ others))

abbrev pub IsRun : List Statement → Run → List Line → Run → Type 0
IsRun = IsRunOf IsStep (λ run. closes_from 0 run.files)

-- ---- the law

-- a run whose lines are all clean has the lines of the definition, and leaves what that leaves
abbrev pub CleanRunsAreExact : Type 0
CleanRunsAreExact =
    (statements : List Statement) → (run : Run) → (lines : List Line) → (next : Run)
    → IsRun statements run lines next → list_all is_clean lines ≡ true
    → (lines ≡ lines_of_run statements run) × (next ≡ after_run statements run)

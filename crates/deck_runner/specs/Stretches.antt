-- A run as stretches of time, one for each step: what a crash in it may leave. All of this is ours.
use Rattle.std.specs.Prelude.{◌≡◌, ℕ, List, [], ◌∷◌, ◌++◌, slice_get, Option, Some, None, true, ◌⊎◌, IsTrue}
use Rattle.std.specs.List.{list_all}
use Rattle.indexed_file.specs.World.{World, name_at, named_at, holding_at, file_in}
use Rattle.indexed_file.specs.Calls.{Keeps}
use Rattle.indexed_file.specs.Images.{Trace, untouched, ImagesGo}
use Rattle.indexed_file.specs.Shown.{Shown}
use Rattle.io_state.specs.declared.statement.FileStatement.{FileStatement}
use Rattle.io_state.specs.declared.status.Status.{Status}
use Rattle.verbs.specs.Connector.{FileState}
use Rattle.verbs.specs.Faults.{is_damaged, is_open_statement}
use Rattle.verbs.specs.Full.{TellsRoom, lacks_room}
use Rattle.verbs.specs.Performed.{StatusHasCause}
use Rattle.verbs.specs.Traces.{trace_of}
use Rattle.verbs.specs.Verbs.{perform}
use Rattle.deck_reader.specs.declared.statement.Statement.{Statement}
use Rattle.deck_reader.specs.declared.statement.Statement.TheVariants.{Perform, Move, MoveLength}
use Rattle.deck_reader.specs.declared.statement.Statement.TheVariants.{StopRun}
use Rattle.deck_runner.specs.Line.{Line, is_clean}
use Rattle.deck_runner.specs.Run.{RunFile, Run, lines_of_run}
use Rattle.deck_runner.specs.Running.{unit_names, length_for}
use Rattle.deck_runner.specs.Steps.{IsStep, AreStepsOf, IsRunOf, AreStepsInPart, IsRunInPart, close_at}
use Rattle.deck_runner.specs.Steps.{closes_from}

-- a point between two steps: the run there, and the library
pub record Point (S : Type 0) : Type 0 where
  pub run : Run
  pub library : S

-- a file of a run is what the library shows of the unit of its number
pub record IsShownBy (world : World) (u : ℕ) (shown : RunFile) : Type 0 where
  pub named : shown.state.named ≡ named_at world u
  pub file : shown.state.file ≡ file_in (holding_at world u)

-- the library shows the files of the run there
abbrev pub ShowsRun : {S : Type 0} → Shown S → Point S → Type 0
ShowsRun library point =
    (u : ℕ) → (file : RunFile) → slice_get point.run.files u ≡ Some file
    → IsShownBy (library.world point.library) u file

-- the file name that a statement is about
abbrev pub name_by : World → Statement → List ℕ
name_by world (Perform u statement) = name_at world u
name_by world (Move u field source) = []
name_by world (MoveLength i source) = []
name_by world StopRun = []

-- what a crash in a step may leave of that name, by the file before the step and the status in its line
abbrev pub trace_on : FileStatement → Option RunFile → List Line → Trace
trace_on statement None lines = untouched
trace_on statement (Some file) [] = untouched
trace_on statement (Some file) (line ∷ lines) = trace_of statement file.state line.status

abbrev pub trace_by : Statement → Run → List Line → Trace
trace_by (Perform u statement) run lines = trace_on statement (slice_get run.files u) lines
trace_by (Move u field source) run lines = untouched
trace_by (MoveLength i source) run lines = untouched
trace_by StopRun run lines = untouched

-- why the line of a statement of unit u's file, with records of n bytes, has its status. 30: the
-- count of the device's faults rose in this statement, or it is CLOSE of a connector that has
-- failed. 92: the connector has failed. 24: the statement should succeed, and the file has no room
-- for it; and where that is so, the status is 24, 30 or 90. 91: it is an OPEN. 90 of an OPEN OUTPUT:
-- the count of the device's faults stayed in this statement
pub record LineIsCaused {S : Type 0} (library : Shown S) (u : ℕ) (statement : FileStatement) (n : ℕ)
    (file : FileState) (before after : S) (status : Status) : Type 0 where
  pub cause : StatusHasCause statement file.connector.session status
      (library.fault_count before) (library.fault_count after)
  pub room : TellsRoom (perform statement n file) (lacks_room statement n (library.room before u) file) status
  pub damage : IsTrue (is_damaged status) → IsTrue (is_open_statement statement)

abbrev pub IsCausedOn : {S : Type 0} → Shown S → ℕ → FileStatement → Option RunFile → Run → List Line
    → (before after : S) → Type 0
IsCausedOn library u statement None run lines before after = Unit {0}
IsCausedOn library u statement (Some file) run [] before after = Unit {0}
IsCausedOn library u statement (Some file) run (line ∷ lines) before after =
    LineIsCaused library u statement (length_for run.items file.state.connector.schema file.depends_on)
    file.state before after line.status

abbrev pub HasCauses : {S : Type 0} → Shown S → Statement → Run → List Line → (before after : S) → Type 0
HasCauses library (Perform u statement) run lines before after =
    IsCausedOn library u statement (slice_get run.files u) run lines before after
HasCauses library (Move u field source) run lines before after = Unit {0}
HasCauses library (MoveLength i source) run lines before after = Unit {0}
HasCauses library StopRun run lines before after = Unit {0}

-- a step, and its stretch of time, from the library that its statement met to the one that it left:
-- both show the files of the run, the library keeps what every call of it does, so that the
-- device's faults of the stretches add up to those of the run, the line has a cause, and the images
-- go as the step says
pub record IsStretch {S : Type 0} (library : Shown S) (statement : Statement) (before : Point S)
    (lines : List Line) (after : Point S) : Type 0 where
  pub step : IsStep statement before.run lines after.run
  pub shows : ShowsRun library before
  pub shows_after : ShowsRun library after
  pub keeps : Keeps library before.library after.library
  pub causes : HasCauses library statement before.run lines before.library after.library
  pub names : unit_names (library.world after.library) ≡ unit_names (library.world before.library)
  pub images : ImagesGo library.moments (name_by (library.world before.library) statement)
      (trace_by statement before.run lines)
      before.library after.library

abbrev pub AreStretches : {S : Type 0} → Shown S → List Statement → Point S → List Line → Point S → Type 0
AreStretches library = AreStepsOf (IsStretch library)

-- the close of the file of a place, if it is still open, and all of the closes
abbrev pub ClosesAt : {S : Type 0} → Shown S → ℕ → Point S → List Line → Point S → Type 0
ClosesAt library u run lines next = AreStretches library
    (close_at u (slice_get run.run.files u)) run lines next

abbrev pub ClosesFiles : {S : Type 0} → Shown S → Point S → List Line → Point S → Type 0
ClosesFiles library run lines next = AreStretches library (closes_from 0 run.run.files) run lines next

-- a whole run
abbrev pub IsRunOver : {S : Type 0} → Shown S → List Statement → Point S → List Line → Point S → Type 0
IsRunOver library = IsRunOf (IsStretch library) (λ point. closes_from 0 point.run.files)

-- some of the statements, from the first on, one after another
abbrev pub AreStretchesInPart : {S : Type 0} → Shown S → List Statement → Point S → List Line → Point S
    → Type 0
AreStretchesInPart library = AreStepsInPart (IsStretch library)

-- the close of the file of a place, or nothing
abbrev pub ClosesAtInPart : {S : Type 0} → Shown S → ℕ → Point S → List Line → Point S → Type 0
ClosesAtInPart library u run lines next = AreStretchesInPart library
    (close_at u (slice_get run.run.files u)) run lines next

-- some of the closes
abbrev pub ClosesInPart : {S : Type 0} → Shown S → Point S → List Line → Point S → Type 0
ClosesInPart library run lines next = AreStretchesInPart library (closes_from 0 run.run.files) run lines next

-- a run that was broken off
abbrev pub IsBrokenOff : {S : Type 0} → Shown S → List Statement → Point S → List Line → Point S → Type 0
IsBrokenOff library = IsRunInPart (IsStretch library) (λ point. closes_from 0 point.run.files)

-- ---- the law

-- in every run, also in one that was broken off, the lines before the first unclean one are the
-- first lines of the definition's, whatever faults come behind them
abbrev pub CleanFrontsAreExact : {S : Type 0} → Shown S → Type 0
CleanFrontsAreExact {S} library =
    (statements : List Statement) → (run : Point S) → (front rest : List Line) → (next : Point S)
    → IsRunOver library statements run (front ++ rest) next
    ⊎ IsBrokenOff library statements run (front ++ rest) next
    → list_all is_clean front ≡ true
    → (more : List Line) × (lines_of_run statements run.run ≡ front ++ more)

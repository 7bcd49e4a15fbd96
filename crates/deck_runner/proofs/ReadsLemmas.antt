-- READ and START change no file.
use Rattle.std.proofs.Common.{◌≡◌, ℕ, zero, suc, Bool, true, false, List, [], ◌∷◌, ◌++◌, All, map, slice_get, Option, Some, None, IsTrue, bytes_eq, if◌then◌else◌, refl, sym, ap, ◌∙◌, subst, inl, inr, append_assoc}
use Rattle.std.proofs.lemmas.List.Elements.{All-nil, All-cons, All-head, All-tail}
use Rattle.std.proofs.lemmas.Slice.Eq.{bytes_eq-Decides}
use Rattle.record_layout.specs.declared.item.Field.{Field}
use Rattle.record_layout.specs.declared.area.Source.{Source}
use Rattle.record_layout.specs.Area.{moved}
use Rattle.indexed_file.specs.Images.{Trace, untouched, Stays, LibraryMayLeave, ImagesGo}
use Rattle.indexed_file.specs.Moments.{JoinsStretches, EndsNow}
use Rattle.indexed_file.specs.File.{Row, File}
use Rattle.indexed_file.specs.World.{Named}
use Rattle.indexed_file.specs.Shown.{Shown}
use Rattle.indexed_file.proofs.TestLemmas.{either}
use Rattle.indexed_file.proofs.ImageLemmas.{stays_none, stays_then}
use Rattle.io_state.specs.declared.modes.Relation.{Relation}
use Rattle.io_state.specs.declared.status.Status.{Status}
use Rattle.io_state.specs.declared.status.Status.TheVariants.{AtEnd, RecordNotFound}
use Rattle.io_state.specs.declared.statement.FileStatement.{FileStatement}
use Rattle.io_state.specs.declared.statement.FileStatement.TheVariants.{ReadNext, Read, Start}
use Rattle.verbs.specs.Checks.{Check, unless_refused}
use Rattle.verbs.specs.Connector.{Session, FileState, Outcome}
use Rattle.verbs.specs.Marred.{MarsRead, Step}
use Rattle.verbs.specs.Reading.{delivered_or, read_next_checks, next_row, read_next_in, read_checks, equal_row, read_in, started, related_row, start_in}
use Rattle.deck_reader.specs.declared.statement.Statement.{Statement}
use Rattle.deck_reader.specs.declared.statement.Statement.TheVariants.{Perform, Move, MoveLength, StopRun}
use Rattle.deck_runner.specs.Line.{Line}
use Rattle.deck_runner.specs.Reads.{only_reads, IsOfReading, FilesStay, ReadsChangeNoFile}
use Rattle.deck_runner.specs.Run.{RunFile, Run, change_at}
use Rattle.deck_runner.specs.Running.{length_for}
use Rattle.deck_runner.specs.Steps.{line_by, left_by, IsStepOn, IsStep, until_stop}
use Rattle.deck_runner.specs.Stretches.{Point, IsStretch, AreStretches, name_by, trace_on, trace_by}
use Rattle.deck_runner.proofs.FrontLemmas.{cut, few}
use Rattle.deck_runner.proofs.HeldLemmas.{all_behind}

-- ---- a statement

-- what the name stands for, and the rows, are as they were
record Same (s : FileState) (outcome : Outcome) : Type 0 where
  named : outcome.next.named ≡ s.named
  rows : outcome.next.file ≡ s.file

abbrev AreSame : FileState → List Check → Type 0
AreSame s [] = Unit {0}
AreSame s (first ∷ checks) = (p : Same s first.answer) × AreSame s checks

one_of_same : (s : FileState) (b : Bool) (x y : Outcome) → Same s x → Same s y → Same s (if b then x else y)
one_of_same s true x y p q = p
one_of_same s false x y p q = q

unless_same : (s : FileState) (checks : List Check) (outcome : Outcome) → AreSame s checks → Same s outcome → Same s (unless_refused checks outcome)
unless_same s [] outcome all p = p
unless_same s (first ∷ checks) outcome all p = one_of_same s first.holds first.answer (unless_refused checks outcome) all.0 (unless_same s checks outcome all.1 p)

delivered_same : (status : Status) (k : ℕ) (row : Option Row) (s : FileState) (session : Session) → Same s (delivered_or status k row s session)
delivered_same status k None s session = record { named = refl; rows = refl }
delivered_same status k (Some row) s session = record { named = refl; rows = refl }

started_same : (k : ℕ) (row : Option Row) (s : FileState) (session : Session) → Same s (started k row s session)
started_same k None s session = record { named = refl; rows = refl }
started_same k (Some row) s session = record { named = refl; rows = refl }

next_same : (s : FileState) (session : Option Session) → Same s (read_next_in s session)
next_same s None = record { named = refl; rows = refl }
next_same s (Some session) =
    unless_same s (read_next_checks s session) (delivered_or AtEnd session.key (next_row s session) s session)
    (record { named = refl; rows = refl }, (record { named = refl; rows = refl }, (record { named = refl; rows = refl }, (record { named = refl; rows = refl }, tt))))
    (delivered_same AtEnd session.key (next_row s session) s session)

checks_same : (s : FileState) (session : Session) → AreSame s (read_checks s session)
checks_same s session = (record { named = refl; rows = refl }, (record { named = refl; rows = refl }, (record { named = refl; rows = refl }, tt)))

read_same : (k : ℕ) (s : FileState) (session : Option Session) → Same s (read_in k s session)
read_same k s None = record { named = refl; rows = refl }
read_same k s (Some session) =
    unless_same s (read_checks s session) (delivered_or RecordNotFound k (equal_row k s) s session) (checks_same s session) (delivered_same RecordNotFound k (equal_row k s) s session)

start_same : (k n : ℕ) (relation : Relation) (s : FileState) (session : Option Session) → Same s (start_in k n relation s session)
start_same k n relation s None = record { named = refl; rows = refl }
start_same k n relation s (Some session) =
    unless_same s (read_checks s session) (started k (related_row k n relation s) s session) (checks_same s session) (started_same k (related_row k n relation s) s session)

mars_same : (s : FileState) (session : Option Session) (outcome : Outcome) → MarsRead s session outcome → Same s outcome
mars_same s None outcome m = absurd m
mars_same s (Some session) outcome m = record { named = ap (λ (o : Outcome). o.next.named) m.1; rows = ap (λ (o : Outcome). o.next.file) m.1 }

step_same : (statement : FileStatement) (n : ℕ) (s : FileState) (outcome : Outcome) → IsTrue (only_reads statement) → Step statement n s outcome → Same s outcome
step_same ReadNext n s outcome reads (inl is) = subst (Same s) is (next_same s s.connector.session)
step_same ReadNext n s outcome reads (inr m) = mars_same s s.connector.session outcome m.1
step_same (Read key) n s outcome reads (inl is) = subst (Same s) is (read_same key s s.connector.session)
step_same (Read key) n s outcome reads (inr m) = mars_same s s.connector.session outcome m.1
step_same (Start key length relation) n s outcome reads (inl is) = subst (Same s) is (start_same key length relation s s.connector.session)
step_same (Start key length relation) n s outcome reads (inr m) = mars_same s s.connector.session outcome m.1
step_same statement n s outcome reads step = absurd (cc)

no_trace : (statement : FileStatement) (file : Option RunFile) (lines : List Line) → IsTrue (only_reads statement) → trace_on statement file lines ≡ untouched
no_trace statement None lines reads = refl
no_trace statement (Some file) [] reads = refl
no_trace ReadNext (Some file) (line ∷ lines) reads = refl
no_trace (Read key) (Some file) (line ∷ lines) reads = refl
no_trace (Start key length relation) (Some file) (line ∷ lines) reads = refl
no_trace statement (Some file) (line ∷ lines) reads = absurd (cc)

-- ---- a step

change_keeps : {A : Type 0} (of : RunFile → A) (u : ℕ) (f : RunFile → RunFile) (xs : List RunFile) (x : RunFile) → slice_get xs u ≡ Some x → of (f x) ≡ of x → map of (change_at u f xs) ≡ map of xs
change_keeps of u f [] x e same = refl
change_keeps of zero f (y ∷ xs) x e same = let y_is : y ≡ x = cc in rw y_is (ap (λ l. l ∷ map of xs) same)
change_keeps of (suc u) f (y ∷ xs) x e same = ap (λ l. of y ∷ l) (change_keeps of u f xs x e same)

move_keeps : {A : Type 0} (of : RunFile → A) (u : ℕ) (f : RunFile → RunFile) (xs : List RunFile) → ((x : RunFile) → of (f x) ≡ of x) → map of (change_at u f xs) ≡ map of xs
move_keeps of u f [] same = refl
move_keeps of zero f (y ∷ xs) same = ap (λ l. l ∷ map of xs) (same y)
move_keeps of (suc u) f (y ∷ xs) same = ap (λ l. of y ∷ l) (move_keeps of u f xs same)

abbrev named_of : RunFile → Named
named_of file = file.state.named

abbrev rows_of : RunFile → Option File
rows_of file = file.state.file

-- the files of a run after a step, and what a crash in it may leave
record IsQuiet (statement : Statement) (run : Run) (lines : List Line) (next : Run) : Type 0 where
  named : map named_of next.files ≡ map named_of run.files
  rows : map rows_of next.files ≡ map rows_of run.files
  trace : trace_by statement run lines ≡ untouched

quiet_on : (statement : FileStatement) (u : ℕ) (file : Option RunFile) (run : Run) (lines : List Line) (next : Run) → slice_get run.files u ≡ file → IsStepOn statement u file run lines next → All IsOfReading lines
    → (map named_of next.files ≡ map named_of run.files) × (map rows_of next.files ≡ map rows_of run.files) × (trace_on statement file lines ≡ untouched)
quiet_on statement u None run lines next is step all =
    (ap (λ (r : Run). map named_of r.files) step.1, ap (λ (r : Run). map rows_of r.files) step.1, refl)
quiet_on statement u (Some file) run lines next is step all =
    let outcome = step.0 in
    let reads : IsTrue (only_reads statement) = All-head IsOfReading (line_by statement file outcome) [] (subst (All IsOfReading) step.2 all) in
    let same = step_same statement (length_for run.items file.state.connector.schema file.depends_on) file.state outcome reads step.1 in (
      ap (λ (r : Run). map named_of r.files) step.3 ∙ change_keeps named_of u (left_by outcome) run.files file is same.named,
      ap (λ (r : Run). map rows_of r.files) step.3 ∙ change_keeps rows_of u (left_by outcome) run.files file is same.rows,
      no_trace statement (Some file) lines reads,
    )

-- a file after a MOVE to its record
abbrev after_move : Field → Source (List ℕ) → RunFile → RunFile
after_move field source file = record file { state = record file.state { area = moved field source file.state.area } }

quiet : (statement : Statement) (run : Run) (lines : List Line) (next : Run) → IsStep statement run lines next → All IsOfReading lines → IsQuiet statement run lines next
quiet (Perform u statement) run lines next step all =
    let is = quiet_on statement u (slice_get run.files u) run lines next refl step all in
    record { named = is.0; rows = is.1; trace = is.2 }
quiet (Move u field source) run lines next step all = record {
  named = ap (λ (r : Run). map named_of r.files) step.1 ∙ move_keeps named_of u (after_move field source) run.files (λ x. refl);
  rows = ap (λ (r : Run). map rows_of r.files) step.1 ∙ move_keeps rows_of u (after_move field source) run.files (λ x. refl);
  trace = refl;
}
quiet (MoveLength i source) run lines next step all = record {
  named = ap (λ (r : Run). map named_of r.files) step.1;
  rows = ap (λ (r : Run). map rows_of r.files) step.1;
  trace = refl;
}
quiet StopRun run lines next step all = record {
  named = ap (λ (r : Run). map named_of r.files) step.1;
  rows = ap (λ (r : Run). map rows_of r.files) step.1;
  trace = refl;
}

all_before : (xs ys : List Line) → All IsOfReading (xs ++ ys) → All IsOfReading xs
all_before [] ys all = All-nil IsOfReading
all_before (x ∷ xs) ys all = All-cons IsOfReading x xs (All-head IsOfReading x (xs ++ ys) all) (all_before xs ys (All-tail IsOfReading x (xs ++ ys) all))

-- ---- a run

module _ {S : Type 0} (library : Shown S) where
  -- the steps of the first lines, and those behind them
  record IsSplit (statements : List Statement) (run : Point S) (first behind : List Line) (next : Point S) : Type 0 where
    done : List Statement
    rest : List Statement
    there : Point S
    statements_are : statements ≡ done ++ rest
    steps : AreStretches library done run first there
    others : AreStretches library rest there behind next

  split_more : (statement : Statement) (statements : List Statement) (run between : Point S) (one others first behind : List Line) (next : Point S) → IsStretch library statement run one between
      → first ≡ one ++ others → IsSplit statements between others behind next → IsSplit (statement ∷ statements) run first behind next
  split_more statement statements run between one others first behind next step is at = record {
    done = statement ∷ at.done;
    rest = at.rest;
    there = at.there;
    statements_are = ap (λ (l : List Statement). statement ∷ l) at.statements_are;
    steps = (one, between, others, step, at.steps, is);
    others = at.others;
  }

  split : (statements : List Statement) (run : Point S) (first behind : List Line) (next : Point S) → AreStretches library statements run (first ++ behind) next → IsSplit statements run first behind next
  split statements run [] behind next steps = record { done = []; rest = statements; there = run; statements_are = refl; steps = (refl, refl); others = steps }
  split [] run (line ∷ first) behind next steps = absurd (let no = steps.0 in cc)
  split (statement ∷ statements) run (line ∷ first) behind next steps =
      let step = steps.3 in
      elim (few statement run.run steps.0 steps.1.run step.step) [
        | inl none ↦
            let rest : steps.2 ≡ (line ∷ first) ++ behind = sym (steps.5 ∙ ap (λ (l : List Line). l ++ steps.2) none) in
            split_more statement statements run steps.1 steps.0 (line ∷ first) (line ∷ first) behind next step (sym (ap (λ (l : List Line). l ++ line ∷ first) none))
            (split statements steps.1 (line ∷ first) behind next (subst (λ (l : List Line). AreStretches library statements steps.1 l next) rest steps.4))
        | inr one ↦
            let all : (line ∷ first) ++ behind ≡ one.0 ∷ steps.2 = steps.5 ∙ ap (λ (l : List Line). l ++ steps.2) one.1 in
            let head : line ≡ one.0 = cc in
            let rest : steps.2 ≡ first ++ behind = cc in
            split_more statement statements run steps.1 steps.0 first (line ∷ first) behind next step (ap (λ (l : Line). l ∷ first) head ∙ sym (ap (λ (l : List Line). l ++ first) one.1))
            (split statements steps.1 first behind next (subst (λ (l : List Line). AreStretches library statements steps.1 l next) rest steps.4))
      ]

  -- the images of every name, where the trace of the one is none
  images_stay : (here : List ℕ) (trace : Trace) (old new : S) → ImagesGo library.moments here trace old new → trace ≡ untouched → (name : List ℕ) → Stays library.moments old new name
  images_stay here trace old new go none name =
      let may : Stays library.moments old new here = subst (λ (t : Trace). LibraryMayLeave library.moments t.may old new here) none go.may in
      either (bytes_eq here name) (Stays library.moments old new name)
      (λ same. subst (λ (n : List ℕ). Stays library.moments old new n) ((bytes_eq-Decides here name).0 same) may)
      (λ apart. go.others name apart)

  module _ (joins : JoinsStretches library.moments) (ends : EndsNow library.moments) where
    files_then : (a b c : Point S) → FilesStay library a b → FilesStay library b c → FilesStay library a c
    files_then a b c p q = record {
      named = q.named ∙ p.named;
      rows = q.rows ∙ p.rows;
      images = λ name. stays_then library.moments joins ends a.library b.library c.library name (p.images name) (q.images name);
    }

    one_stays : (statement : Statement) (run : Point S) (lines : List Line) (next : Point S) → IsStretch library statement run lines next → All IsOfReading lines → FilesStay library run next
    one_stays statement run lines next step all =
        let is = quiet statement run.run lines next.run step.step all in
        record {
          named = is.named;
          rows = is.rows;
          images = images_stay (name_by (library.world run.library) statement) (trace_by statement run.run lines) run.library next.library step.images is.trace;
        }

    all_stay : (statements : List Statement) (run : Point S) (lines : List Line) (next : Point S) → AreStretches library statements run lines next → All IsOfReading lines → FilesStay library run next
    all_stay [] run lines next steps all =
        subst (λ (p : Point S). FilesStay library run p) (sym steps.1) (record { named = refl; rows = refl; images = λ name. stays_none library.moments run.library name })
    all_stay (statement ∷ statements) run lines next steps all =
        let both = subst (All IsOfReading) steps.5 all in
        files_then run steps.1 next (one_stays statement run steps.0 steps.1 steps.3 (all_before steps.0 steps.2 both))
        (all_stay statements steps.1 steps.2 next steps.4 (all_behind steps.0 steps.2 both))

    pub reads_change_no_file : ReadsChangeNoFile library
    reads_change_no_file statements run first behind next (inl p) all =
        let at = split p.0 run first behind next p.3 in (
          at.there,
          inl (at.done, at.rest ++ p.1, p.2 ∙ ap (λ (l : List Statement). l ++ p.1) at.statements_are ∙ append_assoc at.done at.rest p.1, at.steps),
          all_stay at.rest at.there behind next at.others all,
        )
    reads_change_no_file statements run first behind next (inr p) all =
        elim (cut first behind p.1 p.2 p.5) [
          | inl h ↦
              let at = split (until_stop statements) run first h.0 p.0 (subst (λ (l : List Line). AreStretches library (until_stop statements) run l p.0) h.1 p.3) in
              let both = subst (All IsOfReading) h.2 all in (
                at.there,
                inl (at.done, at.rest, at.statements_are, at.steps),
                files_then at.there p.0 next (all_stay at.rest at.there h.0 p.0 at.others (all_before h.0 p.2 both)) (all_stay p.4.0 p.0 p.2 next p.4.3 (all_behind h.0 p.2 both)),
              )
          | inr h ↦
              let at = split p.4.0 p.0 h.0 behind next (subst (λ (l : List Line). AreStretches library p.4.0 p.0 l next) h.2 p.4.3) in (
                at.there,
                inr (p.0, p.1, h.0, p.3, (at.done, at.rest ++ p.4.1, p.4.2 ∙ ap (λ (l : List Statement). l ++ p.4.1) at.statements_are ∙ append_assoc at.done at.rest p.4.1, at.steps), h.1),
                all_stay at.rest at.there behind next at.others all,
              )
        ]

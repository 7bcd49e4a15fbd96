-- No false file after a crash. At each moment of a run, each image of a file stands for what the
-- last CLOSE of a change that answered 00 left, or for that of a CLOSE in progress or one that
-- failed since, or is refused; before the first such CLOSE it may also be as in an image at the
-- start. All of this is ours.
use Rattle.std.specs.Prelude.{◌≡◌, ◌⊎◌, ℕ, Bool, true, false, List, [], ◌∷◌, ◌++◌, Option, Some, None}
use Rattle.std.specs.Prelude.{bytes_eq, if◌then◌else◌}
use Rattle.indexed_file.specs.World.{World, Named}
use Rattle.indexed_file.specs.Images.{Trace, untouched, IsAmong}
use Rattle.indexed_file.specs.Moments.{Moments, EachImage}
use Rattle.indexed_file.specs.Shown.{Shown}
use Rattle.deck_reader.specs.declared.statement.Statement.{Statement}
use Rattle.deck_runner.specs.Line.{Line}
use Rattle.deck_runner.specs.Run.{Run}
use Rattle.deck_reader.specs.declared.deck.Deck.{Deck}
use Rattle.deck_runner.specs.Steps.{AreStepsOf, IsRunOf, IsRunInPart, closes_from}
use Rattle.deck_runner.specs.Stretches.{Point, IsStretch, AreStretches, name_by, trace_by}
use Rattle.deck_runner.specs.State.{AreLinesOf}
use Rattle.deck_runner.specs.ExactRun.{run_before}
use Rattle.deck_runner.specs.Beginning.{WorldIsLeft, WhereFilesAreTrue, IsAttached, program_names}

-- what the images of a name may be: as at the start of the run, until the first CLOSE of a change
-- has answered 00; and these
pub record Ledger : Type 0 where
  pub as_at_start : Bool
  pub may : List Named

-- at the start of the run
abbrev pub first_ledger : Ledger
first_ledger = record { as_at_start = true; may = [] }

-- during a step: what it may leave, besides
abbrev pub during : Trace → Ledger → Ledger
during trace ledger = record ledger { may = trace.may ++ ledger.may }

-- behind it: what it alone leaves, if it leaves one thing alone
abbrev pub behind_by : Option Named → Ledger → Ledger
behind_by None ledger = ledger
behind_by (Some only) ledger = record { as_at_start = false; may = only ∷ [] }

abbrev pub behind : Trace → Ledger → Ledger
behind trace ledger = behind_by trace.only (during trace ledger)

-- it is one that the ledger has: one at the start, while it may be as then, or one of these
abbrev pub IsOfLedger : (Named → Type 0) → Ledger → Named → Type 0
IsOfLedger IsAtStart ledger image = ((ledger.as_at_start ≡ true) × IsAtStart image) ⊎ IsAmong ledger.may image

-- at each moment from the one library to the other each image of the name is real, and is one that
-- the ledger has; where images may be as at the start, those at the start have to be real for this
abbrev pub StandsBy : {S : Type 0} → Moments S → S → List ℕ → Ledger → S → S → Type 0
StandsBy moments start name ledger old new = (ledger.as_at_start ≡ true → moments.AreReal start start name)
    → EachImage moments (IsOfLedger (moments.IsImage start start name) ledger) old new name

-- what a step may leave of any name
abbrev pub trace_for : World → Statement → Run → List Line → List ℕ → Trace
trace_for world statement run lines name = if bytes_eq
    (name_by world statement) name then trace_by statement run lines else untouched

-- a point of a run, and the ledger of each name there
pub record Judged (S : Type 0) : Type 0 where
  pub point : Point S
  pub ledger : List ℕ → Ledger

-- a stretch in which each name stands by its ledger, which goes on as the step says
pub record IsSafeStretch {S : Type 0} (library : Shown S) (start : S) (statement : Statement)
    (before : Judged S) (lines : List Line) (after : Judged S) : Type 0 where
  pub stretch : IsStretch library statement before.point lines after.point
  pub stands : (name : List ℕ) → let trace = trace_for
      (library.world before.point.library) statement before.point.run lines name in
      StandsBy library.moments start name (during trace (before.ledger name)) before.point.library
      after.point.library
  pub ledger : (name : List ℕ) → let trace = trace_for
      (library.world before.point.library) statement before.point.run lines name in
      after.ledger name ≡ behind trace (before.ledger name)

-- each name stands by its ledger now
abbrev pub AreWithinLedgers : {S : Type 0} → Shown S → S → Judged S → Type 0
AreWithinLedgers library start judged =
    (name : List ℕ) → StandsBy library.moments start name
    (judged.ledger name) judged.point.library judged.point.library

-- the law: in every run of steps with their stretches each name stands by its ledger throughout
abbrev pub NoFalseFile : {S : Type 0} → Shown S → Type 0
NoFalseFile {S} library =
    (start : S) → (statements : List Statement) → (before : Judged S) → (lines : List Line) → (next : Point S)
    → AreStretches library statements before.point lines next → AreWithinLedgers library start before
    → (after : Judged S) × (after.point ≡ next) × AreStepsOf
    (IsSafeStretch library start) statements before lines after × AreWithinLedgers library start after

-- ---- in so many words

-- what the images of a name may be, where at the start of the run they were among these
abbrev pub images_by : List Named → Ledger → List Named
images_by first ledger = if ledger.as_at_start then first ++ ledger.may else ledger.may

-- the law: where a name stands by its ledger, each image at each moment is real and one of these
abbrev pub ImagesAreOfLedger : {S : Type 0} → Shown S → Type 0
ImagesAreOfLedger {S} library =
    (start old new : S) → (name : List ℕ) → (ledger : Ledger) → (first : List Named)
    → EachImage library.moments (IsAmong first) start start name
    → StandsBy library.moments start name ledger old new
    → EachImage library.moments (IsAmong (images_by first ledger)) old new name

-- ---- a run

-- a whole run of such stretches, the closes at its end among them
abbrev pub IsSafeRun : {S : Type 0} → Shown S → S → List Statement → Judged S → List Line → Judged S → Type 0
IsSafeRun library start = IsRunOf (IsSafeStretch library start)
    (λ judged. closes_from 0 judged.point.run.files)

-- a run that was broken off
abbrev pub IsSafeBrokenOff : {S : Type 0} → Shown S → S → List Statement → Judged S → List Line → Judged S
    → Type 0
IsSafeBrokenOff library start = IsRunInPart (IsSafeStretch library start)
    (λ judged. closes_from 0 judged.point.run.files)

-- where the files are true, such stretches lead with these lines from the deck before its first
-- statement to what the library shows then, behind the stretch in which its names are attached;
-- from the start on each name stands by its ledger, and so it does at the end. In any library the
-- lines are those of the deck's files
pub record DeckRuns {S : Type 0} (library : Shown S) (old new : S) (deck : Deck) (AreSuch : Judged S
    → List Line → Judged S → Type 0) (lines : List Line) : Type 0 where
  pub stretches : WhereFilesAreTrue library old new deck
      ((begun : S) × (after : Judged S) × IsAttached library old begun deck
      × AreSuch (record {
        point = record { run = run_before (library.world old) deck; library = begun };
        ledger = λ name. first_ledger;
      }) lines after
      × (after.point.library ≡ new) × AreWithinLedgers library old after
      × WorldIsLeft (library.world new) deck after.point.run)
  pub lines_are : AreLinesOf library (program_names deck) old new lines

-- a whole run of the deck, and one that was broken off
abbrev pub RunsWhole : {S : Type 0} → Shown S → (old new : S) → Deck → List Line → Type 0
RunsWhole library old new deck lines = DeckRuns library old new deck
    (IsSafeRun library old deck.statements) lines

abbrev pub RunsInPart : {S : Type 0} → Shown S → (old new : S) → Deck → List Line → Type 0
RunsInPart library old new deck lines = DeckRuns library old new deck
    (IsSafeBrokenOff library old deck.statements) lines

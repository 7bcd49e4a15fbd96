-- What a statement promises that is performed on one file of a run.
use Rattle.std.specs.Prelude.{◌≡◌, ◌⊎◌, ℕ, ◌+◌, Bool, true, false, ◌&&◌, List, take, Option, IsTrue}
use Rattle.std.specs.Option.{option_flatten}
use Rattle.io_state.specs.declared.status.Status.{Status}
use Rattle.io_state.specs.declared.status.Status.TheVariants.{BoundaryViolation, PermanentError}
use Rattle.io_state.specs.declared.status.Status.TheVariants.{ConnectorFailed, OutOfMemory, OutOfSequence}
use Rattle.io_state.specs.declared.statement.FileStatement.{FileStatement}
use Rattle.io_state.specs.declared.statement.FileStatement.TheVariants.{Open, Close, ReadNext, Read, Start}
use Rattle.io_state.specs.declared.statement.FileStatement.TheVariants.{Write, Rewrite, Delete}
use Rattle.indexed_file.specs.World.{OnlyAt, name_at}
use Rattle.indexed_file.specs.Shown.{Shown}
use Rattle.indexed_file.specs.Believed.{Believed}
use Rattle.indexed_file.specs.Images.{ImagesGo}
use Rattle.indexed_file.specs.Calls.{Keeps, HasRisen}
use Rattle.verbs.specs.declared.answer.Answer.{Answer}
use Rattle.verbs.specs.Connector.{Session, FileState}
use Rattle.verbs.specs.Faults.{OutOfMemoryIsCaused}
use Rattle.verbs.specs.Fits.{Fits, IsStanding, asks, closes_failed, has_failed, is_output, key_of_session}
use Rattle.verbs.specs.Full.{TellsRoom, lacks_room}
use Rattle.verbs.specs.Held.{Held, Performs, Decides, state_of, silent}
use Rattle.verbs.specs.Pages.{AnswersWithin, most_asked}
use Rattle.verbs.specs.Counted.{begins_count, BeginsCount}
use Rattle.verbs.specs.Refusals.{is_refusal}
use Rattle.verbs.specs.Traces.{trace_of}
use Rattle.verbs.specs.Verbs.{perform, reaches}
use Rattle.verbs.specs.Writing.{is_late}

-- one file of a run in memory: its connector, the library that it is of, and its record area
pub record FileInMemory (S : Type 0) : Type 0 where
  pub held : Held
  pub library : S
  pub area : List ℕ

abbrev pub in_memory : {S : Type 0} → Held → S → List ℕ → FileInMemory S
in_memory held library area = record { held = held; library = library; area = area }

-- the file as these show it
abbrev pub state_in : {S : Type 0} → Shown S → ℕ → FileInMemory S → FileState
state_in shown u file = state_of file.held (shown.world file.library) u file.area

-- a fact is to be believed, where what the connector kept was true
abbrev pub Trusted : {S : Type 0} → Shown S → ℕ → FileInMemory S → FileInMemory S → Type 0 → Type 0
Trusted shown u before after fact =
    Believed shown u before.library after.library (IsStanding before.held (shown.world before.library) u
    → fact)

-- what the connector keeps stays true
abbrev pub StaysStanding : {S : Type 0} → Shown S → ℕ → FileInMemory S → FileInMemory S → Type 0
StaysStanding shown u before after = Trusted shown u before after
    (IsStanding after.held (shown.world after.library) u)

-- WRITE and REWRITE store a record
abbrev pub stores : FileStatement → Bool
stores (Open mode) = false
stores (Close lock) = false
stores ReadNext = false
stores (Read key) = false
stores (Start key length relation) = false
stores Write = true
stores Rewrite = true
stores Delete = false

-- OPEN OUTPUT, which asks the library for a new file, and for nothing before it
abbrev pub opens_output : FileStatement → Bool
opens_output (Open mode) = is_output mode
opens_output (Close lock) = false
opens_output ReadNext = false
opens_output (Read key) = false
opens_output (Start key length relation) = false
opens_output Write = false
opens_output Rewrite = false
opens_output Delete = false

-- why a status is answered: 30 only where the count of the device's faults rose, or by CLOSE of a
-- connector that has failed; 92 only by a connector that has failed; 24 only where a record is to
-- be stored; 90 by OPEN OUTPUT only where that count stays
pub record StatusHasCause (statement : FileStatement) (session : Option Session) (status : Status)
    (old new : ℕ) : Type 0 where
  pub device : status ≡ PermanentError → HasRisen old new ⊎ IsTrue (closes_failed statement session)
  pub failed : status ≡ ConnectorFailed → IsTrue (has_failed session)
  pub full : status ≡ BoundaryViolation → IsTrue (stores statement)
  pub memory : status ≡ OutOfMemory → IsTrue (opens_output statement) → new ≡ old

-- a WRITE of n bytes in sequential access passes its checks, and the connector knows that its prime
-- value is not above the greatest of the file
abbrev pub is_known_late : FileStatement → ℕ → Held → FileState → Bool
is_known_late (Open mode) n held s = false
is_known_late (Close lock) n held s = false
is_known_late ReadNext n held s = false
is_known_late (Read key) n held s = false
is_known_late (Start key length relation) n held s = false
is_known_late Write n held s = reaches Write n s
    && is_late s.connector (option_flatten held.highest) (take n s.area)
is_known_late Rewrite n held s = false
is_known_late Delete n held s = false

-- a statement, of a record of n bytes, was carried out on unit u: where it asks for nothing the
-- library is left so, and the count of the unit's pages is at most this
pub record IsCarriedOut
    {S : Type 0} (shown : Shown S) (u : ℕ) (Leaves : S → S → Type 0) (most : ℕ) (statement : FileStatement)
    (n : ℕ)
    (before : FileInMemory S) (answer : Answer) (after : FileInMemory S) : Type 0 where
  -- the connector goes with its unit, and keeps its schema
  pub fits : Fits after.held (shown.world after.library) u
  pub schema : after.held.connector.schema ≡ before.held.connector.schema
  -- nothing is changed but the unit and its name; honesty may only fall, and what is shown stays true
  pub only : OnlyAt u (shown.world before.library) (shown.world after.library)
  pub keeps : Keeps shown before.library after.library
  -- what the checks decide is exact, and asks the library for nothing; nor does a key that is known
  -- to be out of sequence
  pub early : asks statement n (state_in shown u before) ≡ false
      → Leaves before.library after.library × Decides statement n (state_in shown u before) answer
      (state_in shown u after)
  pub refusal : IsTrue (is_refusal statement answer.status)
      → asks statement n (state_in shown u before) ≡ false
  pub known : is_known_late statement n before.held (state_in shown u before) ≡ true
      → Leaves before.library after.library × (answer ≡ silent OutOfSequence)
  -- CLOSE of a connector that has failed answers 30, whatever the library says; and 30, 92, 24 and
  -- 90 have their causes
  pub failed_close : closes_failed statement before.held.connector.session ≡ true
      → answer ≡ silent PermanentError
  pub cause : StatusHasCause statement before.held.connector.session answer.status
      (shown.fault_count before.library) (shown.fault_count after.library)
  pub memory : OutOfMemoryIsCaused statement shown.may_want_memory answer.status
  -- the answer and what is left are the definitions', or those of a marred step; and what the
  -- connector keeps is true
  pub step : Trusted shown u before after
      (Performs statement n (state_in shown u before) answer (state_in shown u after))
  pub standing : StaysStanding shown u before after
  -- 24 tells of the room of the file
  pub room : Trusted shown u before after
      (TellsRoom (perform statement n (state_in shown u before))
      (lacks_room statement n (shown.room before.library u) (state_in shown u before)) answer.status)
  -- so many pages are asked for at most, on an open unit
  pub asked : Trusted shown u before after
      (IsTrue (begins_count shown u statement before.library)
      → AnswersWithin shown u most after.library answer.status)
  -- what a crash may leave
  pub images : Trusted shown u before after
      (ImagesGo shown.moments (name_at (shown.world before.library) u)
      (trace_of statement (state_in shown u before) answer.status) before.library after.library)

-- the most pages that the statement may ask for
abbrev pub most_by : {S : Type 0} → Shown S → ℕ → FileStatement → FileInMemory S → ℕ
most_by shown u statement before = most_asked statement (key_of_session before.held.connector.session)
    (shown.room before.library u)

-- it was performed: it has begun the count of the unit's pages, where the unit is open, whatever
-- its checks say
abbrev pub IsPerformed : {S : Type 0} → Shown S → ℕ → FileStatement → ℕ → FileInMemory S → Answer
    → FileInMemory S → Type 0
IsPerformed shown u statement n before answer after =
    IsCarriedOut shown u (BeginsCount shown u statement)
    (most_by shown u statement before) statement n before answer after

-- it was performed behind the beginning of the count
abbrev pub IsPerformedCounted : {S : Type 0} → Shown S → ℕ → FileStatement → ℕ → FileInMemory S → Answer
    → FileInMemory S → Type 0
IsPerformedCounted shown u statement n before answer after =
    IsCarriedOut shown u (λ old new. new ≡ old) (shown.pages_asked before.library u
    + most_by shown u statement before) statement n
    before answer after

-- so, of the connector, the library and the area before it, of the answer, and of what it leaves of them
module _ {S : Type 0} (shown : Shown S) (u : ℕ) where
  -- a statement was performed that may read a record into the area
  abbrev pub PerformsInto : FileStatement → ℕ → (held : Held) → (library : S) → (area : List ℕ) → Answer
      → Held → S → List ℕ → Type 0
  PerformsInto statement n held library area answer now after read =
      IsPerformed shown u statement n (in_memory held library area) answer (in_memory now after read)

  -- one that takes its record or its key from the area, which stays
  abbrev pub PerformsFrom : FileStatement → ℕ → (held : Held) → (library : S) → (area : List ℕ) → Status
      → Held → S → Type 0
  PerformsFrom statement n held library area status now after =
      PerformsInto statement n held library area (silent status) now after area

  -- one without a record: whatever stands in the area stays there
  abbrev pub PerformsWithout : FileStatement → (held : Held) → (library : S) → Status → Held → S → Type 0
  PerformsWithout statement held library status now after =
      (n : ℕ) → (area : List ℕ) → PerformsFrom statement n held library area status now after

  -- the first two, behind the beginning of the count
  abbrev pub AnswersInto : FileStatement → ℕ → (held : Held) → (library : S) → (area : List ℕ) → Answer
      → Held → S → List ℕ → Type 0
  AnswersInto statement n held library area answer now after read =
      IsPerformedCounted shown u statement n (in_memory held library area) answer (in_memory now after read)

  abbrev pub AnswersFrom : FileStatement → ℕ → (held : Held) → (library : S) → (area : List ℕ) → Status
      → Held → S → Type 0
  AnswersFrom statement n held library area status now after =
      AnswersInto statement n held library area (silent status) now after area

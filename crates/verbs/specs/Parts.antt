-- What a part of a statement promises that stands behind its checks.
use Rattle.std.specs.Prelude.{◌≡◌, ℕ, ◌+◌, Bool, true, false, List, [], Some, IsTrue, Result}
use Rattle.io_state.specs.declared.fault.Fault.{Fault}
use Rattle.io_state.specs.declared.modes.OpenMode.{OpenMode}
use Rattle.io_state.specs.declared.status.Status.{Status}
use Rattle.io_state.specs.declared.status.Status.TheVariants.{OutOfMemory, OutOfSequence}
use Rattle.io_state.specs.declared.statement.FileStatement.{FileStatement}
use Rattle.io_state.specs.declared.statement.FileStatement.TheVariants.{Open, Write, Rewrite, Delete}
use Rattle.record_layout.specs.Schema.{Schema}
use Rattle.indexed_file.specs.World.{World, OnlyAt, Absent, named_at, file_at}
use Rattle.indexed_file.specs.Room.{Room, is_full_to_add, is_full_to_replace, most_to_change}
use Rattle.indexed_file.specs.Shown.{Shown}
use Rattle.indexed_file.specs.Believed.{Believed}
use Rattle.indexed_file.specs.Images.{Trace, CallGoes}
use Rattle.indexed_file.specs.Calls.{Keeps}
use Rattle.verbs.specs.Connector.{Session, FileState, Outcome, file_of, answers}
use Rattle.verbs.specs.Faults.{is_boundary_violation, OutOfMemoryIsCaused}
use Rattle.verbs.specs.Fits.{Fits, HasSoundFile, MakesFile, IsStanding, LearnsHighest, PermanentErrorIsCaused}
use Rattle.verbs.specs.Fits.{is_late_in, knows_late}
use Rattle.verbs.specs.Full.{TellsRoom}
use Rattle.verbs.specs.Held.{Held, HasChangeOutcome, state_of, unread, rewritten_as}
use Rattle.verbs.specs.Marred.{creates}
use Rattle.verbs.specs.Opening.{created, open_named}
use Rattle.verbs.specs.Pages.{AnswersWithin, most_to_write}
use Rattle.verbs.specs.Performed.{FileInMemory, StaysStanding, Trusted, in_memory}
use Rattle.verbs.specs.Refusals.{is_early}
use Rattle.verbs.specs.Traces.{trace_of_open, trace_of_change_by}
use Rattle.verbs.specs.Writing.{written_record, stored_record, deleted}

-- a part of a statement behind its checks, which answers none of the early statuses: what a crash
-- in it may leave is this
pub record IsPart
    {S : Type 0} (shown : Shown S) (u : ℕ) (trace : Trace)
    (before : FileInMemory S) (status : Status) (after : FileInMemory S) : Type 0 where
  pub fits : Fits after.held (shown.world after.library) u
  pub schema : after.held.connector.schema ≡ before.held.connector.schema
  pub only : OnlyAt u (shown.world before.library) (shown.world after.library)
  pub keeps : Keeps shown before.library after.library
  pub late : is_early status ≡ false
  pub cause : PermanentErrorIsCaused status false (shown.fault_count before.library)
      (shown.fault_count after.library)
  pub images : CallGoes shown u trace before.library after.library

-- the file of a part as these show it, with this record area
abbrev pub state_with : {S : Type 0} → Shown S → ℕ → FileInMemory S → List ℕ → FileState
state_with shown u file area = state_of file.held (shown.world file.library) u area

-- whatever stands in the area, a statement is answered so and leaves what it should, or a fault has marred it
abbrev pub ChangesTo
    : {S : Type 0} → Shown S → ℕ → FileStatement → (FileState → Outcome) → FileInMemory S → Status
    → FileInMemory S → Type 0
ChangesTo shown u statement should before status after =
    (area : List ℕ) → HasChangeOutcome statement (should (state_with shown u before area))
    (state_with shown u before area)
    status (state_with shown u after area)

-- a part of an OPEN: its mode, whether it makes a file, what has to be so, and what it should leave then
pub record OpenPart : Type 1 where
  pub mode : OpenMode
  pub creates : Held → Bool
  pub IsSo : Held → World → ℕ → Type 0
  pub should : FileState → Outcome

-- OPEN of a file that is absent; of one that was found sound; and one that makes a new file
abbrev pub opening_absent : OpenMode → OpenPart
opening_absent mode = record {
  mode = mode;
  creates = λ held. creates mode held.connector.optional Absent;
  IsSo = λ held world u. named_at world u ≡ Absent;
  should = open_named mode Absent;
}

abbrev pub opening_sound : OpenMode → Schema → OpenPart
opening_sound mode schema = record {
  mode = mode;
  creates = λ held. false;
  IsSo = λ held world u. HasSoundFile world u schema;
  should = λ s. open_named mode s.named s;
}

abbrev pub creating : OpenMode → Status → OpenPart
creating mode status = record {
  mode = mode;
  creates = λ held. true;
  IsSo = MakesFile mode;
  should = λ s. answers status (created mode s);
}

-- a change that a statement makes behind its checks: what it should make of the file, and whether
-- the file lacks room for it
pub record Change : Type 0 where
  pub statement : FileStatement
  pub should : FileState → Session → Outcome
  pub lacks_room : Room → FileState → Bool

-- WRITE of a record; WRITE of one that is not late; REWRITE of a record; DELETE of the record of a
-- prime value
abbrev pub writing : List ℕ → Change
writing bytes = record {
  statement = Write;
  should = written_record bytes;
  lacks_room = λ room s. is_full_to_add room (file_of s);
}

abbrev pub storing : List ℕ → Change
storing bytes = record {
  statement = Write;
  should = stored_record bytes;
  lacks_room = λ room s. is_full_to_add room (file_of s);
}

abbrev pub rewriting : List ℕ → Change
rewriting bytes = record {
  statement = Rewrite;
  should = rewritten_as bytes;
  lacks_room = λ room s. is_full_to_replace room s.connector.schema bytes (file_of s);
}

abbrev pub deleting : List ℕ → Change
deleting prime = record { statement = Delete; should = deleted prime; lacks_room = λ room s. false }

-- in each session a change was made as it should be, or a fault has marred it; and 24 tells of the
-- room of the file
pub record IsChangeMade
    {S : Type 0} (shown : Shown S) (u : ℕ) (change : Change)
    (before : FileInMemory S) (status : Status) (after : FileInMemory S) : Type 0 where
  pub step : (session : Session) → before.held.connector.session ≡ Some (unread session)
      → ChangesTo shown u change.statement (λ s. change.should s session) before status after
  pub room : (area : List ℕ) → (session : Session)
      → TellsRoom (change.should (state_with shown u before area) session)
      (change.lacks_room (shown.room before.library u) (state_with shown u before area)) status

-- of the connector and the library before a part, of its status, and of what it leaves of them
module _ {S : Type 0} (shown : Shown S) (u : ℕ) where
  -- OPEN goes on by this part, which never answers 24, and 90 for no fault of the device
  pub record OpensBy (opening : OpenPart) (held : Held) (library : S) (status : Status)
      (now : Held) (after : S) : Type 0 where
    pub part : IsPart shown u (trace_of_open (opening.creates held) status)
        (in_memory held library []) status (in_memory now after [])
    pub step : Believed shown u library after (opening.IsSo held (shown.world library) u
        → ChangesTo shown u (Open opening.mode) opening.should
        (in_memory held library []) status (in_memory now after []))
    pub not_full : is_boundary_violation status ≡ false
    pub memory : status ≡ OutOfMemory → shown.fault_count after ≡ shown.fault_count library
    pub standing : IsTrue (shown.is_honest after) → opening.IsSo held (shown.world library) u
        → IsStanding now (shown.world after) u

  -- a REWRITE or DELETE makes this change, and what the connector keeps stays true
  pub record MakesUpdate (update : Change) (held : Held) (library : S) (status : Status)
      (now : Held) (after : S) : Type 0 where
    pub part : IsPart shown u (trace_of_change_by status)
        (in_memory held library []) status (in_memory now after [])
    pub memory : OutOfMemoryIsCaused update.statement shown.may_want_memory status
    pub change : Believed shown u library after (IsChangeMade shown u update
        (in_memory held library []) status (in_memory now after []))
    pub standing : StaysStanding shown u (in_memory held library []) (in_memory now after [])
    pub asked : Believed shown u library after (AnswersWithin shown u
        (shown.pages_asked library u + most_to_change (shown.room library u)) after status)

  -- a record is added; where it is not late, what the connector keeps stays true
  pub record StoresRecord (bytes : List ℕ) (held : Held) (library : S) (status : Status)
      (now : Held) (after : S) : Type 0 where
    pub part : IsPart shown u (trace_of_change_by status)
        (in_memory held library []) status (in_memory now after [])
    pub memory : OutOfMemoryIsCaused Write shown.may_want_memory status
    pub change : Believed shown u library after (IsChangeMade shown u (storing bytes)
        (in_memory held library []) status (in_memory now after []))
    pub standing : is_late_in held (shown.world library) u bytes ≡ false
        → StaysStanding shown u (in_memory held library []) (in_memory now after [])
    pub asked : Believed shown u library after (AnswersWithin shown u
        (shown.pages_asked library u + most_to_change (shown.room library u)) after status)

  -- a WRITE adds a record, unless it is late. Of one that is known to be late the library is not asked
  pub record PutsRecord (bytes : List ℕ) (held : Held) (library : S) (status : Status)
      (now : Held) (after : S) : Type 0 where
    pub part : IsPart shown u (trace_of_change_by status)
        (in_memory held library []) status (in_memory now after [])
    pub memory : OutOfMemoryIsCaused Write shown.may_want_memory status
    pub change : Trusted shown u (in_memory held library []) (in_memory now after [])
        (IsChangeMade shown u (writing bytes)
        (in_memory held library []) status (in_memory now after []))
    pub standing : StaysStanding shown u (in_memory held library []) (in_memory now after [])
    pub known : knows_late held bytes ≡ true → (after ≡ library) × (status ≡ OutOfSequence)
    pub asked : Believed shown u library after (AnswersWithin shown u
        (shown.pages_asked library u + most_to_write (shown.room library u)) after status)

  -- a call that was answered has learned the greatest prime value of the unit's file
  abbrev pub LearnsOfFile : {X : Type 0} → (held : Held) → (library : S) → (now : Held) → (after : S)
      → Result X Fault → Type 0
  LearnsOfFile held library now after result = Believed shown u library after
      (LearnsHighest held (file_at (shown.world library) u) now.highest result)

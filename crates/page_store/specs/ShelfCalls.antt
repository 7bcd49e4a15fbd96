-- What the calls on a unit of a shelf require and ensure.
use Rattle.std.specs.Prelude.{ℕ, IsTrue, List, length, Result, IfOk, OnOk, OnErr}
use Rattle.io_state.specs.declared.fault.Fault.{Fault}
use Rattle.page_store.specs.Calls.{WrittenAt, WriteFails}
use Rattle.page_store.specs.DeviceFile.{DeviceFile}
use Rattle.page_store.specs.Gate.{WasOrRefused, SameOrRefused, OnlyGate, Opens}
use Rattle.page_store.specs.Moments.{Throughout}
use Rattle.page_store.specs.ShelfState.{ShelfState, HasUnit, unit_file, WhereHonest, FileGoes, OnlyAnswers}
use Rattle.page_store.specs.ShelfState.{ChangesOnly, KeepsOthers, FaultHasCause}

-- the unit is attached, and where the shelf is honest this is true of its file
pub record HasUnitWith (shelf : ShelfState) (u : ℕ) (P : DeviceFile → Type 0) : Type 0 where
  pub unit : HasUnit shelf u
  pub file : WhereHonest shelf u P

-- where the shelf is honest after a call, this is true of the unit's file before and after it
abbrev pub GoesHonestly : ℕ → ShelfState → ShelfState → (DeviceFile → DeviceFile → Type 0) → Type 0
GoesHonestly unit old new P = IsTrue new.is_honest → FileGoes unit old new P

-- where the shelf is honest before it, so
abbrev pub GoesFromHonest : ℕ → ShelfState → ShelfState → (DeviceFile → DeviceFile → Type 0) → Type 0
GoesFromHonest unit old new P = IsTrue old.is_honest → FileGoes unit old new P

-- at each moment a crash leaves what it could leave before, or a refused file
abbrev pub StaysOrRefuses : DeviceFile → DeviceFile → Type 0
StaysOrRefuses old new = Throughout (WasOrRefused old) old new

-- of shelves that show this state and count their faults so
module _ {H X : Type 0} (state : H → ShelfState) (count : H → ℕ) where
  -- a call that only answers: where the shelf is honest, its answer is true of the unit's file
  pub record AsksUnit (unit : ℕ) (IsTold : DeviceFile → X → Type 0) (before after : H)
      (result : Result X Fault) : Type 0 where
    pub answer : IfOk result (λ x. IsTrue (state after).is_honest → IsTold (unit_file (state before) unit) x)
    pub only : OnlyAnswers (state before) (state after)
    pub cause : FaultHasCause (count before) (count after) result

  -- a call that changes the file of a unit: how it goes where it is done, and how where it fails
  pub record ChangesUnitFile (unit : ℕ) (Done Failed : DeviceFile → DeviceFile → Type 0) (before after : H)
      (result : Result X Fault) : Type 0 where
    pub done : OnOk result (FileGoes unit (state before) (state after) Done)
    pub failed : OnErr result (FileGoes unit (state before) (state after) Failed)
    pub only : ChangesOnly unit (state before) (state after)
    pub cause : FaultHasCause (count before) (count after) result

  -- bytes are written into the file of a unit, from byte `at` on
  abbrev pub WritesUnitFile : ℕ → ℕ → List ℕ → H → H → Result X Fault → Type 0
  WritesUnitFile unit at bytes before after result = ChangesUnitFile unit (WrittenAt at bytes)
      (WriteFails at (length bytes)) before after result

  -- a call that gives a file without bytes an open gate
  pub record StartsGate (unit : ℕ) (before after : H) (result : Result X Fault) : Type 0 where
    pub images : GoesHonestly unit (state before) (state after) StaysOrRefuses
    pub opens : OnOk result (GoesHonestly unit (state before) (state after) Opens)
    pub failed : OnErr result (GoesHonestly unit (state before) (state after) SameOrRefused)
    pub only : ChangesOnly unit (state before) (state after)
    pub cause : FaultHasCause (count before) (count after) result

  -- a call that opens the gate of a file with bytes, and changes none of the others
  pub record ReopensGate (unit : ℕ) (before after : H) (result : Result X Fault) : Type 0 where
    pub images : GoesHonestly unit (state before) (state after) StaysOrRefuses
    pub opens : OnOk result (GoesHonestly unit (state before) (state after) Opens)
    pub failed : OnErr result (GoesHonestly unit (state before) (state after) SameOrRefused)
    pub gate : GoesHonestly unit (state before) (state after) OnlyGate
    pub only : KeepsOthers unit (state before) (state after)
    pub cause : FaultHasCause (count before) (count after) result

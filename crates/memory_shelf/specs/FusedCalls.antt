-- What the calls of a shelf behind a fuse ensure.
use Rattle.std.specs.Prelude.{ℕ, IsTrue, List, length, Result, ⊤}
use Rattle.io_state.specs.declared.fault.Fault.{Fault}
use Rattle.page_store.specs.DeviceFile.{DeviceFile}
use Rattle.page_store.specs.Calls.{ReadsBytes, WrittenAt, WriteFails}
use Rattle.page_store.specs.ShelfState.{ShelfState, unit_file, FileGoes}
use Rattle.page_store.specs.ShelfCalls.{AsksUnit, ChangesUnitFile}
use Rattle.memory_shelf.specs.Fuses.{capped, Fused}
use Rattle.memory_shelf.specs.declared.fuse.Call.{Call}
use Rattle.memory_shelf.specs.declared.fuse.Call.TheVariants.{Read, Write, Other}
use Rattle.memory_shelf.specs.declared.fuse_shelf.FuseShelf.{FuseShelf}

-- of shelves that show this state and count their faults so, each behind a fuse
module _ {S : Type 0} (state : S → ShelfState) (count : S → ℕ) where
  abbrev pub state_behind : FuseShelf S → ShelfState
  state_behind shelf = state shelf.inner

  -- the faults of the shelf, and the calls that the fuse refused
  abbrev pub count_behind : FuseShelf S → ℕ
  count_behind shelf = capped (count shelf.inner) shelf.fuse.refused

  module _ {X : Type 0} where
    -- a call that only answers, and that the fuse may fail behind its effect
    pub record AsksBehindFuse (call : Call) (unit : ℕ) (Effect : DeviceFile → Type 0)
        (IsTold : DeviceFile → X → Type 0) (old new : FuseShelf S) (result : Result X Fault) : Type 0 where
      pub asks : AsksUnit state_behind count_behind unit IsTold old new result
      pub fuse : Fused call count
          (IsTrue (state new.inner).is_honest → Effect (unit_file (state old.inner) unit))
          old.fuse new.fuse old.inner new.inner result

    -- a call that only answers, and that no fuse counts
    abbrev pub LooksBehindFuse : ℕ → (DeviceFile → X → Type 0) → (old new : FuseShelf S)
        → Result X Fault → Type 0
    LooksBehindFuse unit IsTold old new result = AsksBehindFuse Other unit (λ _. ⊤) IsTold old new result

    -- bytes of the file of a unit are read
    abbrev pub ReadsBehindFuse : ℕ → ℕ → List ℕ → FuseShelf S → FuseShelf S → Result X Fault → Type 0
    ReadsBehindFuse unit at bytes old new result = AsksBehindFuse Read unit (λ file. ReadsBytes file at bytes)
        (λ file _. ReadsBytes file at bytes) old new result

    -- a call that changes the file of a unit, and that the fuse may fail
    pub record ChangesBehindFuse (call : Call) (unit : ℕ) (Done Failed : DeviceFile → DeviceFile → Type 0)
        (old new : FuseShelf S) (result : Result X Fault) : Type 0 where
      pub changes : ChangesUnitFile state_behind count_behind unit Done Failed old new result
      pub fuse : Fused call count (FileGoes unit (state old.inner) (state new.inner) Done)
          old.fuse new.fuse old.inner new.inner result

    -- bytes are written into the file of a unit
    abbrev pub WritesBehindFuse : ℕ → ℕ → List ℕ → FuseShelf S → FuseShelf S → Result X Fault → Type 0
    WritesBehindFuse unit at bytes old new result = ChangesBehindFuse Write unit (WrittenAt at bytes)
        (WriteFails at (length bytes)) old new result

-- A call that changes the open file of a unit.
use Rattle.std.specs.Prelude.{◌≡◌, ℕ, ◌<◌, length, slice_set, Result, IsTrue}
use Rattle.record_layout.specs.Schema.{Schema}
use Rattle.io_state.specs.declared.fault.Fault.{Fault}
use Rattle.page_store.specs.Images.{Leaves}
use Rattle.page_store.specs.ShelfState.{unit_file}
use Rattle.page_alloc.specs.Steps.{MayOpenGate}
use Rattle.indexed_file.specs.FileChange.{FileChange}
use Rattle.shelf_library.specs.declared.shelf_file.ShelfFile.{ShelfFile}
use Rattle.shelf_library.specs.Calls.{ChangesOnShelf, on_shelf}
use Rattle.shelf_library.specs.Standing.{IsReady, pages_behind}
use Rattle.shelf_library.specs.State.{LibraryState, held_at}
use Rattle.shelf_library.specs.OneUnit.{AreUnits}
use Rattle.shelf_library.specs.declared.held.Held.TheVariants.{Opened}

-- unit u has this file open, and a call on it may have opened its gate
pub record MovesAt (u : ℕ) (file after : ShelfFile) (old new : LibraryState) : Type 0 where
  pub units : AreUnits old.shelf old.held
  pub attached : u < length old.held
  pub opened : held_at old.held u ≡ Opened file
  pub holds : new.held ≡ slice_set old.held u (Opened after)
  pub limit : new.limit ≡ old.limit
  pub frames : new.frames ≡ old.frames
  pub moves : MayOpenGate (pages_behind file) (pages_behind after) old.shelf new.shelf old.faults new.faults
  pub ready : IsReady after new.shelf
  -- what reads give is one of the images
  pub image_before : IsTrue old.shelf.is_honest → Leaves (unit_file old.shelf u) (unit_file old.shelf u).seen
  pub image_after : IsTrue new.shelf.is_honest → Leaves (unit_file new.shelf u) (unit_file new.shelf u).seen

-- what each of the calls that change records leaves of the file
abbrev pub ChangesFile : {X : Type 0} → (Schema → FileChange X) → (file after : ShelfFile)
    → (old new : LibraryState) → Result X Fault → Type 0
ChangesFile change file after old new result = ChangesOnShelf change (on_shelf file old.shelf old.faults)
    (on_shelf after new.shelf new.faults) result

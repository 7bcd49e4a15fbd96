-- The call that shuts a unit.
use Rattle.std.specs.Prelude.{◌≡◌, ℕ, ◌<◌, length, slice_set, Result, IsTrue}
use Rattle.io_state.specs.declared.fault.Fault.{Fault}
use Rattle.page_store.specs.Images.{Leaves}
use Rattle.page_store.specs.ShelfState.{unit_file}
use Rattle.shelf_library.specs.declared.shelf_file.ShelfFile.{ShelfFile}
use Rattle.shelf_library.specs.FileOpening.{ClosesOnShelf, counted_shelf}
use Rattle.shelf_library.specs.State.{LibraryState, held_at}
use Rattle.shelf_library.specs.OneUnit.{AreUnits}
use Rattle.shelf_library.specs.declared.held.Held.TheVariants.{Nothing, Opened}

-- unit u had this file open, the file was closed, and the unit holds nothing
pub record ClosesUnitAt (u : ℕ) (file : ShelfFile) (result : Result (Unit {0}) Fault)
    (old new : LibraryState) : Type 0 where
  pub units : AreUnits old.shelf old.held
  pub attached : u < length old.held
  pub opened : held_at old.held u ≡ Opened file
  pub holds : new.held ≡ slice_set old.held u Nothing
  pub limit : new.limit ≡ old.limit
  pub frames : new.frames ≡ old.frames
  pub close : ClosesOnShelf file (counted_shelf old.shelf old.faults) (counted_shelf new.shelf new.faults)
      result
  -- what reads give is one of the images
  pub image_before : IsTrue old.shelf.is_honest → Leaves (unit_file old.shelf u) (unit_file old.shelf u).seen
  pub image_after : IsTrue new.shelf.is_honest → Leaves (unit_file new.shelf u) (unit_file new.shelf u).seen

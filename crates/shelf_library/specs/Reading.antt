-- A call that only reads the open file of a unit.
use Rattle.std.specs.Prelude.{◌≡◌, ℕ, ◌<◌, length, slice_set, IsTrue}
use Rattle.indexed_file.specs.File.{File}
use Rattle.indexed_file.specs.World.{Opened as HasOpened, holding_at}
use Rattle.page_store.specs.DeviceFile.{DeviceFile}
use Rattle.page_store.specs.Images.{Leaves}
use Rattle.page_store.specs.Moments.{Quiet}
use Rattle.page_store.specs.Gate.{AllOpen}
use Rattle.page_store.specs.ShelfState.{unit_file}
use Rattle.shelf_library.specs.declared.shelf_file.ShelfFile.{ShelfFile}
use Rattle.shelf_library.specs.Calls.{OnlyReadsFile}
use Rattle.shelf_library.specs.Standing.{StandsFor, schema_behind}
use Rattle.shelf_library.specs.State.{LibraryState, held_at}
use Rattle.shelf_library.specs.Units.{world_of}
use Rattle.shelf_library.specs.OneUnit.{AreUnits}
use Rattle.shelf_library.specs.declared.held.Held.TheVariants.{Opened}

-- unit u has this file open, and a call on it has only read
pub record ReadsAt (u : ℕ) (file after : ShelfFile) (old new : LibraryState) : Type 0 where
  pub units : AreUnits old.shelf old.held
  pub attached : u < length old.held
  pub opened : held_at old.held u ≡ Opened file
  pub holds : new.held ≡ slice_set old.held u (Opened after)
  pub limit : new.limit ≡ old.limit
  pub frames : new.frames ≡ old.frames
  pub reads : OnlyReadsFile file after old.shelf new.shelf old.faults new.faults
  -- what reads give is one of the images
  pub image_before : IsTrue old.shelf.is_honest → Leaves (unit_file old.shelf u) (unit_file old.shelf u).seen
  pub image_after : IsTrue new.shelf.is_honest → Leaves (unit_file new.shelf u) (unit_file new.shelf u).seen

-- a file behind an open gate went on quietly
pub record GoesOpen (old new : DeviceFile) : Type 0 where
  pub before : AllOpen old
  pub after : AllOpen new
  pub quiet : Quiet old new

-- the open file of unit u stands for these rows, and the unit holds them
pub record IsKnown (u : ℕ) (file : ShelfFile) (state : LibraryState) : Type 0 where
  pub rows : File
  pub stands : StandsFor file state.shelf rows
  pub holding : holding_at (world_of state.shelf state.held) u ≡ HasOpened (schema_behind file) rows

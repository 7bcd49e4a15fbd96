-- The calls that open a unit: its file is opened by the header that a look had accepted, or made anew.
use Rattle.std.specs.Prelude.{◌≡◌, ℕ, ◌<◌, length, slice_set, Result, IsTrue}
use Rattle.io_state.specs.declared.fault.Fault.{Fault}
use Rattle.record_layout.specs.Schema.{Schema}
use Rattle.page_store.specs.Images.{Leaves}
use Rattle.page_store.specs.ShelfState.{unit_file}
use Rattle.open_file.specs.declared.first_page.Header.{Header}
use Rattle.shelf_library.specs.declared.shelf_file.ShelfFile.{ShelfFile}
use Rattle.shelf_library.specs.FileOpening.{MakesOnShelf, OpensByHeader, counted_shelf}
use Rattle.shelf_library.specs.State.{LibraryState, held_at}
use Rattle.shelf_library.specs.Told.{held_open}
use Rattle.shelf_library.specs.OneUnit.{AreUnits}
use Rattle.shelf_library.specs.declared.held.Held.TheVariants.{Looked}

-- unit u held the header of its file, and the file was opened by it
pub record OpensAt (u : ℕ) (header : Header) (r : Result ShelfFile Fault)
    (old new : LibraryState) : Type 0 where
  pub units : AreUnits old.shelf old.held
  pub attached : u < length old.held
  pub looked : held_at old.held u ≡ Looked header
  pub holds : new.held ≡ slice_set old.held u (held_open r)
  -- nothing is read or written
  pub shelf : new.shelf ≡ old.shelf
  pub faults : new.faults ≡ old.faults
  pub limit : new.limit ≡ old.limit
  pub frames : new.frames ≡ old.frames
  pub by_header : OpensByHeader u new.limit new.frames header r

-- unit u was not open, and a file was made in the place of whatever its name stood for
pub record MakesAt (u : ℕ) (schema : Schema) (r : Result ShelfFile Fault)
    (old new : LibraryState) : Type 0 where
  pub units : AreUnits old.shelf old.held
  pub attached : u < length old.held
  pub holds : new.held ≡ slice_set old.held u (held_open r)
  pub limit : new.limit ≡ old.limit
  pub frames : new.frames ≡ old.frames
  pub make : MakesOnShelf u new.limit new.frames schema (counted_shelf old.shelf old.faults)
      (counted_shelf new.shelf new.faults) r
  -- what reads give is one of the images
  pub image_after : IsTrue new.shelf.is_honest → Leaves (unit_file new.shelf u) (unit_file new.shelf u).seen

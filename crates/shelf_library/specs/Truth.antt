-- When what a library over a shelf shows is what its files are.
use Rattle.std.specs.Prelude.{◌≡◌, ℕ, ◌<◌, List, length, false, IsFalse}
use Rattle.indexed_file.specs.File.{File}
use Rattle.page_store.specs.DeviceFile.{DeviceFile, content}
use Rattle.page_store.specs.ShelfState.{ShelfState, unit_name}
use Rattle.open_file.specs.declared.first_page.Header.{Header}
use Rattle.shelf_library.specs.declared.look.HeaderLook.TheVariants.{Accepted}
use Rattle.shelf_library.specs.declared.shelf_file.ShelfFile.{ShelfFile}
use Rattle.shelf_library.specs.ClosedFile.{StandsIn, AreClosed}
use Rattle.shelf_library.specs.Named.{look_of}
use Rattle.shelf_library.specs.Standing.{StandsFor, is_broken_file, pages_behind, schema_behind}
use Rattle.shelf_library.specs.State.{held_at}
use Rattle.shelf_library.specs.declared.held.Held.{Held}
use Rattle.shelf_library.specs.declared.held.Held.TheVariants.{Opened}
use Rattle.page_alloc.specs.PagedFile.{is_begun}

-- a file whose first page is accepted stands for some rows
pub record IsTrulyClosed (bytes : DeviceFile) (header : Header) : Type 0 where
  pub rows : File
  pub stands : StandsIn header (content bytes) rows

-- an open file stands for some rows, and where it was not changed so does the closed one
pub record IsTrulyOpen (shelf : ShelfState) (file : ShelfFile) (bytes : DeviceFile) : Type 0 where
  pub rows : File
  pub stands : StandsFor file shelf rows
  pub closed : is_begun (pages_behind file) ≡ false → AreClosed (schema_behind file) rows (content bytes)

-- what is shown of a name is what its file is, closed or open
pub record IsShownTruly (shelf : ShelfState) (held : List Held) (name : List ℕ) : Type 0 where
  pub closed : (header : Header) → look_of (shelf.file name).seen ≡ Accepted header
      → IsTrulyClosed (shelf.file name) header
  pub opened : (u : ℕ) (file : ShelfFile) → u < length shelf.names → unit_name shelf u ≡ name
      → held_at held u ≡ Opened file → IsFalse (is_broken_file file)
      → IsTrulyOpen shelf file (shelf.file name)

-- What is so of every library over a shelf, and what a call on one unit leaves of the shelf and of
-- what the units hold.
use Rattle.std.specs.Prelude.{◌≡◌, ℕ, ◌<◌, List, length, slice_set, bytes_eq, IsFalse}
use Rattle.std.specs.List.{IsDistinct}
use Rattle.page_store.specs.ShelfState.{ShelfState, KeepsOthers, unit_file}
use Rattle.open_file.specs.declared.first_page.Header.{Header}
use Rattle.shelf_library.specs.declared.look.HeaderLook.TheVariants.{Accepted}
use Rattle.shelf_library.specs.declared.shelf_file.ShelfFile.{ShelfFile}
use Rattle.shelf_library.specs.Named.{look_of}
use Rattle.shelf_library.specs.Standing.{is_broken_file}
use Rattle.shelf_library.specs.State.{AreLooked, AreReady, IsLooked, IsReadyAt}
use Rattle.shelf_library.specs.Truth.{IsTrulyClosed, IsTrulyOpen}
use Rattle.shelf_library.specs.declared.held.Held.{Held}
use Rattle.shelf_library.specs.declared.held.Held.TheVariants.{Looked, Opened}

-- the units have names that differ, and what they hold fits their files
pub record AreUnits (shelf : ShelfState) (held : List Held) : Type 0 where
  pub many : length held ≡ length shelf.names
  pub distinct : IsDistinct bytes_eq shelf.names
  pub looked : AreLooked shelf held
  pub ready : AreReady shelf held

-- only what unit u holds has changed, and only the file of its name
pub record ChangesAt (u : ℕ) (one : Held) (old new : ShelfState) (held now : List Held) : Type 0 where
  pub attached : u < length held
  pub others : KeepsOthers u old new
  pub holds : now ≡ slice_set held u one

-- what unit u holds now fits its file
pub record FitsItsFile (u : ℕ) (one : Held) (shelf : ShelfState) : Type 0 where
  pub looked : (header : Header) → one ≡ Looked header → IsLooked shelf u header
  pub ready : (file : ShelfFile) → one ≡ Opened file → IsReadyAt shelf u file

-- what is shown of the unit's name now is what its file is
pub record IsTrulyHeld (u : ℕ) (one : Held) (shelf : ShelfState) : Type 0 where
  pub closed : (header : Header) → look_of (unit_file shelf u).seen ≡ Accepted header
      → IsTrulyClosed (unit_file shelf u) header
  pub opened : (file : ShelfFile) → one ≡ Opened file → IsFalse (is_broken_file file)
      → IsTrulyOpen shelf file (unit_file shelf u)

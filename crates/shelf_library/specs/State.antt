-- A library over a shelf: its shelf, and what each unit holds.
use Rattle.std.specs.Prelude.{◌≡◌, ℕ, List, slice_index_or, IsTrue}
use Rattle.page_store.specs.ShelfState.{ShelfState}
use Rattle.open_file.specs.declared.first_page.Header.{Header}
use Rattle.open_file.specs.Bounds.{IsHeader}
use Rattle.shelf_library.specs.declared.shelf_file.ShelfFile.{ShelfFile}
use Rattle.shelf_library.specs.Standing.{IsReady, HasLimits, pages_behind}
use Rattle.shelf_library.specs.Shelves.{HasAccepted}
use Rattle.shelf_library.specs.declared.held.Held.{Held}
use Rattle.shelf_library.specs.declared.held.Held.TheVariants.{Nothing, Looked, Opened}
use Rattle.page_alloc.specs.PagedFile.{unit_of_pages}

pub record LibraryState : Type 0 where
  pub shelf : ShelfState
  pub held : List Held
  -- how often the device has failed
  pub faults : ℕ
  -- the most pages that a file may have
  pub limit : ℕ
  -- the most pages of an open file that are held in memory
  pub frames : ℕ

-- what unit u holds
abbrev pub held_at : List Held → ℕ → Held
held_at held u = slice_index_or held u Nothing

-- a header that was looked at is one that a file may have, and the one that the unit's file has
pub record IsLooked (shelf : ShelfState) (u : ℕ) (header : Header) : Type 0 where
  pub allowed : IsHeader header
  pub accepted : IsTrue shelf.is_honest → HasAccepted shelf u header

abbrev pub AreLooked : ShelfState → List Held → Type 0
AreLooked shelf held = (u : ℕ) (header : Header) → held_at held u ≡ Looked header → IsLooked shelf u header

-- calls may be made on the file of unit u
pub record IsReadyAt (shelf : ShelfState) (u : ℕ) (file : ShelfFile) : Type 0 where
  pub unit_is : unit_of_pages (pages_behind file) ≡ u
  pub ready : IsReady file shelf

abbrev pub AreReady : ShelfState → List Held → Type 0
AreReady shelf held = (u : ℕ) (file : ShelfFile) → held_at held u ≡ Opened file → IsReadyAt shelf u file

-- each open file has the limits of the library
abbrev pub AreLimited : (limit frames : ℕ) → List Held → Type 0
AreLimited limit frames held = (u : ℕ) (file : ShelfFile) → held_at held u ≡ Opened file
    → HasLimits limit frames file

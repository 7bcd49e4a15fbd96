-- What looking at a file, making it, opening it and closing it leave of the file and of the shelf.
use Rattle.std.specs.Prelude.{◌≡◌, ◌≢◌, ◌≤◌, ℕ, true, false, IsTrue, IsFalse, Result, Err, IfOk, IfErr, OnErr}
use Rattle.io_state.specs.declared.fault.Fault.{Fault}
use Rattle.io_state.specs.declared.fault.Fault.TheVariants.{Device, Memory, Full, Damage, Broken}
use Rattle.indexed_file.specs.File.{File}
use Rattle.record_layout.specs.Schema.{Schema}
use Rattle.page_store.specs.Gate.{WasOrRefused}
use Rattle.page_store.specs.Moments.{Throughout}
use Rattle.page_store.specs.ShelfState.{ShelfState, FileGoes, KeepsOthers, OnlyAnswers, FaultHasCause}
use Rattle.page_store.specs.ShelfState.{unit_file}
use Rattle.page_alloc.specs.Joining.{FaultsRose, pages_counted, first_free_page, pages_free}
use Rattle.page_alloc.specs.declared.paged_file.PagedFile.{PagedFile}
use Rattle.page_alloc.specs.PagedFile.{IsKeptOrRefused, counts_of, is_begun, unit_of_pages}
use Rattle.open_file.specs.declared.first_page.Header.{Header}
use Rattle.open_file.specs.Fields.{has_broken, file_schema}
use Rattle.open_file.specs.Faults.{IsCausedIn}
use Rattle.open_file.specs.Headers.{Counts}
use Rattle.shelf_library.specs.declared.look.HeaderLook.{HeaderLook}
use Rattle.shelf_library.specs.declared.shelf_file.ShelfFile.{ShelfFile}
use Rattle.shelf_library.specs.Named.{look_of}
use Rattle.shelf_library.specs.Standing.{StandsFor, HasLimits}
use Rattle.shelf_library.specs.Shelves.{HasHeader, IsOpened, IsMade, Closes}

-- the header counts the pages in use and those that are free
abbrev pub CountsPages : Header → PagedFile → Type 0
CountsPages header pages = let pager = counts_of pages in
    Counts header (pages_counted pager) (first_free_page pager) (pages_free pager)

-- a shelf whose device has failed so often
pub record CountedShelf : Type 0 where
  pub shelf : ShelfState
  pub faults : ℕ

abbrev pub counted_shelf : ShelfState → ℕ → CountedShelf
counted_shelf shelf faults = record { shelf = shelf; faults = faults }

-- a unit's file was looked at, and nothing was written
pub record LooksOnShelf (unit : ℕ) (old new : CountedShelf) (result : Result HeaderLook Fault) : Type 0 where
  pub found : IsTrue new.shelf.is_honest
      → IfOk result (λ look. look ≡ look_of (unit_file old.shelf unit).seen)
  pub header : IfOk result HasHeader
  pub only : OnlyAnswers old.shelf new.shelf
  pub cause : FaultHasCause old.faults new.faults result

-- why a file may not have been made: Device only where the device has failed; Memory and Damage;
-- never Full or Broken
pub record MayFailToMake (failed : Type 0) (fault : Fault) : Type 0 where
  pub device : fault ≡ Device → failed
  pub not_full : fault ≢ Full
  pub not_broken : fault ≢ Broken

-- a file was made in the place of whatever the unit's name stood for; a fault leaves that, or a
-- refused file; and where memory lacked, nothing was asked of the shelf
pub record MakesOnShelf (unit limit frames : ℕ) (schema : Schema) (old new : CountedShelf)
    (result : Result ShelfFile Fault) : Type 0 where
  pub made : IfOk result (λ held. IsMade held unit limit schema new.shelf)
  pub limits : IfOk result (HasLimits limit frames)
  pub images : IsTrue new.shelf.is_honest → Throughout (WasOrRefused (unit_file old.shelf unit))
      (unit_file old.shelf unit) (unit_file new.shelf unit)
  pub failed : OnErr result (IsTrue new.shelf.is_honest → FileGoes unit old.shelf new.shelf IsKeptOrRefused)
  pub others : KeepsOthers unit old.shelf new.shelf
  pub count : old.faults ≤ new.faults
  pub cause : IfErr result (MayFailToMake (FaultsRose old.faults new.faults))
  pub memory : result ≡ Err Memory → new ≡ old
  pub damage : IsTrue new.shelf.is_honest → IfErr result (λ e. e ≢ Damage)

-- the file of a unit was opened by this header, with nothing read; or memory was lacking
pub record OpensByHeader (unit limit frames : ℕ) (header : Header)
    (result : Result ShelfFile Fault) : Type 0 where
  pub opened : IfOk result (λ held. IsOpened held unit header)
  pub counts : IfOk result (λ held. (pages_counted (counts_of held.pages) ≡ header.pages)
      × (pages_free (counts_of held.pages) ≡ header.free))
  pub limits : IfOk result (HasLimits limit frames)
  pub memory : OnErr result (result ≡ Err Memory)

-- a file was closed, with nothing written where it was broken or was not changed
pub record ClosesOnShelf (held : ShelfFile) (old new : CountedShelf)
    (result : Result (Unit {0}) Fault) : Type 0 where
  pub broken : IsTrue (has_broken held.file) → result ≡ Err Broken
  pub nothing : IsTrue (has_broken held.file) → new.shelf.file ≡ old.shelf.file
  pub unchanged : is_begun held.pages ≡ false → new.shelf.file ≡ old.shelf.file
  pub closes : IsTrue new.shelf.is_honest → IsFalse (has_broken held.file) → is_begun held.pages ≡ true
      → (file : File) → StandsFor held old.shelf file
      → Closes (file_schema held.file) file (unit_file old.shelf (unit_of_pages held.pages))
      (unit_file new.shelf (unit_of_pages held.pages)) result
  pub others : KeepsOthers (unit_of_pages held.pages) old.shelf new.shelf
  pub count : old.faults ≤ new.faults
  pub cause : IfErr result (IsCausedIn (has_broken held.file) (FaultsRose old.faults new.faults) ⊥)
  pub damage : IfErr result (λ e. e ≢ Damage)

-- the same, of shelves that show this state and count their faults so
module _ {H : Type 0} (state : H → ShelfState) (count : H → ℕ) where
  -- a unit's file was looked at
  abbrev pub LooksAtUnit : ℕ → H → H → Result HeaderLook Fault → Type 0
  LooksAtUnit unit old new result = LooksOnShelf unit (counted_shelf (state old) (count old))
      (counted_shelf (state new) (count new)) result

  -- a file was made
  abbrev pub MakesHeld : (unit limit frames : ℕ) → Schema → H → H → Result ShelfFile Fault → Type 0
  MakesHeld unit limit frames schema old new result = MakesOnShelf unit limit frames schema
      (counted_shelf (state old) (count old)) (counted_shelf (state new) (count new)) result

  -- a file was closed
  abbrev pub ClosesHeld : ShelfFile → H → H → Result (Unit {0}) Fault → Type 0
  ClosesHeld held old new result = ClosesOnShelf held (counted_shelf (state old) (count old))
      (counted_shelf (state new) (count new)) result

-- Pages of a new file that are filled from those of another.
use Rattle.std.specs.Prelude.{◌≡◌, ◌≤◌, ◌<◌, ℕ, length, None, true, false, IsTrue, IsFalse, Result, IfOk, IfErr}
use Rattle.indexed_file.specs.File.{File}
use Rattle.page_store.specs.Moments.{IsQuiet}
use Rattle.page_store.specs.Pages.{HoldsPages}
use Rattle.page_store.specs.ShelfState.{ShelfState, OnlyAnswers, KeepsOthers, WhereHonest}
use Rattle.page_alloc.specs.declared.paged_file.PagedFile.{PagedFile}
use Rattle.page_alloc.specs.Joining.{FaultsRose, page_limit}
use Rattle.page_alloc.specs.PagedFile.{IsOpenOver, is_begun, unit_of_pages, counts_of}
use Rattle.page_alloc.specs.Steps.{pages_state_of}
use Rattle.open_file.specs.declared.open_file.OpenFile.{OpenFile}
use Rattle.open_file.specs.Fields.{has_broken, file_schema}
use Rattle.open_file.specs.Stands.{Stands, IsShaped}
use Rattle.shelf_library.specs.FileOpening.{CountedShelf, counted_shelf}
use Rattle.shelf_library.specs.Standing.{IsReady, StandsFor}
use Rattle.file_building.specs.declared.file_parts.FileParts.{FileParts}
use Rattle.file_building.specs.Parts.{joined_file}
use Rattle.file_building.specs.declared.fault.CopyingFault.{CopyingFault}
use Rattle.file_building.specs.Faults.{IsMovingCause, IsCopyingAnswer}

-- one file is open and was not changed, and has the key, and the gate of the other is open
pub record CanFill (file : OpenFile) (key : ℕ) (pages target : PagedFile) (from to : ShelfState) : Type 0 where
  pub readable : IsOpenOver pages from
  pub unchanged : is_begun pages ≡ false
  pub shaped : IsShaped file
  pub has_key : key < length (file_schema file).keys
  pub unbroken : IsFalse (has_broken file)
  pub writable : IsOpenOver target to
  pub begun : is_begun target ≡ true

-- the parts are those of an open file of this unit, with the schema of another, behind an open gate
pub record IsCopyFilled (file : OpenFile) (unit limit : ℕ) (shelf : ShelfState) (parts : FileParts)
    : Type 0 where
  pub ready : IsReady (joined_file parts) shelf
  pub unit_is : unit_of_pages parts.pages ≡ unit
  pub limit_is : page_limit (counts_of parts.pages) ≡ limit
  pub changed : is_begun parts.pages ≡ true
  pub unbroken : IsFalse (has_broken parts.file)
  pub schema_is : file_schema parts.file ≡ file_schema file

-- no page is in use, and the pages are sound
pub record IsBlank (target : PagedFile) (shelf : ShelfState) : Type 0 where
  pub none : (n : ℕ) → (pages_state_of target shelf).live n ≡ None
  pub sound : IsTrue (pages_state_of target shelf).is_sound

-- where the shelf is honest, the file of this unit has as many pages as it may have
abbrev pub IsFullFile : (unit limit : ℕ) → ShelfState → Type 0
IsFullFile unit limit shelf = WhereHonest shelf unit (HoldsPages limit)

-- a call that fills the pages: where the file stands for rows, so do the new parts. One shelf is only
-- read, and of the other one file goes quietly
pub record FillsNew (file : OpenFile) (pages target : PagedFile) (from from_now to to_now : CountedShelf)
    (result : Result FileParts CopyingFault) : Type 0 where
  pub copied : IsTrue from_now.shelf.is_honest → IsTrue to_now.shelf.is_honest
      → IsBlank target to.shelf → (rows : File) → Stands file (pages_state_of pages from.shelf).live rows
      → IsCopyingAnswer result (λ parts. StandsFor (joined_file parts) to_now.shelf rows)
  pub made : IfOk result (IsCopyFilled file (unit_of_pages target) (page_limit (counts_of target)) to_now.shelf)
  pub only : OnlyAnswers from.shelf from_now.shelf
  pub others : KeepsOthers (unit_of_pages target) to.shelf to_now.shelf
  pub quiet : IsQuiet (unit_of_pages target) to.shelf to_now.shelf
  pub read_count : from.faults ≤ from_now.faults
  pub write_count : to.faults ≤ to_now.faults
  pub cause : IfErr result (IsMovingCause (FaultsRose from.faults from_now.faults)
      (FaultsRose to.faults to_now.faults)
      (IsFullFile (unit_of_pages target) (page_limit (counts_of target)) to_now.shelf))

-- the same, of shelves that show these states and count their faults so
module _ {S T : Type 0} (state : S → ShelfState) (count : S → ℕ) (state_to : T → ShelfState)
    (count_to : T → ℕ) where
  abbrev pub FillsPages : OpenFile → (pages target : PagedFile) → S → S → T → T
      → Result FileParts CopyingFault → Type 0
  FillsPages file pages target from from_now to to_now result = FillsNew file pages target
      (counted_shelf (state from) (count from)) (counted_shelf (state from_now) (count from_now))
      (counted_shelf (state_to to) (count_to to)) (counted_shelf (state_to to_now) (count_to to_now)) result

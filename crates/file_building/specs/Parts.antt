-- The parts of a file are the file.
use Rattle.std.specs.Prelude.{◌≡◌, ℕ, List, true, IsTrue, IsFalse, Result, Ok, Err, OnOk, IfErr}
use Rattle.indexed_file.specs.File.{File}
use Rattle.page_store.specs.DeviceFile.{content}
use Rattle.page_store.specs.ShelfState.{ShelfState, unit_file}
use Rattle.page_alloc.specs.Joining.{FaultsRose, pages_counted}
use Rattle.page_alloc.specs.PagedFile.{counts_of, is_begun, unit_of_pages}
use Rattle.open_file.specs.declared.first_page.Header.{Header}
use Rattle.open_file.specs.Fields.{has_broken}
use Rattle.open_file.specs.declared.open_file.OpenFile.{OpenFile}
use Rattle.shelf_library.specs.ClosedFile.{IsAcceptedBy}
use Rattle.shelf_library.specs.Standing.{StandsFor}
use Rattle.io_state.specs.declared.fault.Fault.{Fault}
use Rattle.io_state.specs.declared.fault.Fault.TheVariants.{Device}
use Rattle.shelf_library.specs.declared.shelf_file.ShelfFile.{ShelfFile}
use Rattle.file_building.specs.declared.file_parts.FileParts.{FileParts}

-- the file that has these parts
abbrev pub joined_file : FileParts → ShelfFile
joined_file parts = record { file = parts.file; pages = parts.pages }

-- the same of an answer
abbrev pub joined_answer : Result FileParts Fault → Result ShelfFile Fault
joined_answer (Ok parts) = Ok (joined_file parts)
joined_answer (Err fault) = Err fault

-- the first page of these bytes is that of a file which was closed, and tells of so many pages, which
-- are all there
pub record HavePages (count : ℕ) (bytes : List ℕ) : Type 0 where
  pub header : Header
  pub accepted : IsAcceptedBy header bytes
  pub count_is : header.pages ≡ count

-- where a file that was changed is closed, it has the pages that it counts
abbrev pub ClosesCounted : ShelfFile → (old new : ShelfState) → Result (Unit {0}) Fault → Type 0
ClosesCounted held old new result = IsTrue new.is_honest → IsFalse (has_broken held.file)
    → is_begun held.pages ≡ true → (file : File) → StandsFor held old file
    → OnOk result (HavePages (pages_counted (counts_of held.pages))
    (content (unit_file new (unit_of_pages held.pages))))

-- a call on the shelf failed, and nothing else did
pub record IsDeviceFault (failed : Type 0) (fault : Fault) : Type 0 where
  pub device : fault ≡ Device
  pub counted : failed

-- a file that is not broken is not closed only where a call on the shelf failed
abbrev pub FailsToClose : OpenFile → (old new : ℕ) → Result (Unit {0}) Fault → Type 0
FailsToClose file old new result =
    IsFalse (has_broken file) → IfErr result (IsDeviceFault (FaultsRose old new))

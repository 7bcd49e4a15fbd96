-- The new file, closed.
use Rattle.std.specs.Prelude.{◌≡◌, ◌≤◌, ℕ, true, IsTrue, IsFalse, length, Result, IfOk, OnOk, IfErr, ⊤}
use Rattle.record_layout.specs.Schema.{Schema}
use Rattle.indexed_file.specs.File.{File}
use Rattle.page_store.specs.DeviceFile.{DeviceFile, content}
use Rattle.page_store.specs.Images.{IsSettled}
use Rattle.page_store.specs.Moments.{Throughout}
use Rattle.page_store.specs.ShelfState.{ShelfState, KeepsOthers, unit_file}
use Rattle.page_alloc.specs.Joining.{FaultsRose}
use Rattle.page_alloc.specs.PagedFile.{is_begun, unit_of_pages}
use Rattle.open_file.specs.Fields.{has_broken, file_schema}
use Rattle.shelf_library.specs.ClosedFile.{AreClosed}
use Rattle.shelf_library.specs.FileOpening.{CountedShelf, counted_shelf}
use Rattle.shelf_library.specs.Shelves.{ClosedFileOrRefused}
use Rattle.shelf_library.specs.Standing.{IsReady, StandsFor}
use Rattle.file_building.specs.declared.built_end.FileBuilt.{FileBuilt}
use Rattle.file_building.specs.declared.built_end.FileBuilt.TheVariants.{Closed, Unclosed, OutOfOrder, Clash}
use Rattle.file_building.specs.declared.file_parts.FileParts.{FileParts}
use Rattle.file_building.specs.Parts.{joined_file, HavePages, IsDeviceFault}
use Rattle.file_building.specs.declared.fault.Copied.{Copied}
use Rattle.file_building.specs.declared.fault.CopyingFault.{CopyingFault}
use Rattle.file_building.specs.Faults.{IsClosingCause}

-- calls may be made on the parts of a file that is being written, and none failed
pub record IsReadyParts (parts : FileParts) (shelf : ShelfState) : Type 0 where
  pub ready : IsReady (joined_file parts) shelf
  pub unbroken : IsFalse (has_broken parts.file)
  pub changed : is_begun parts.pages ≡ true

-- where it is answered that a file was copied, it is closed, settled, and stands for this file, and so
-- many records and pages are told as it has
pub record IsCopyDone (schema : Schema) (file : File) (new : DeviceFile) (result : Result Copied CopyingFault)
    : Type 0 where
  pub settled : OnOk result (IsSettled new)
  pub closed : OnOk result (AreClosed schema file (content new))
  pub records : IfOk result (λ copied. copied.records ≡ length file.rows)
  pub pages : IfOk result (λ copied. HavePages copied.pages (content new))

-- at each moment a crash leaves the file closed or refused, and at the end it is closed
pub record EndsCopy (schema : Schema) (file : File) (old new : DeviceFile)
    (result : Result Copied CopyingFault) : Type 0 where
  pub images : Throughout (ClosedFileOrRefused schema file) old new
  pub done : IsCopyDone schema file new result

-- a call that closes the new file
pub record ClosesNew (parts : FileParts) (old new : CountedShelf) (result : Result Copied CopyingFault)
    : Type 0 where
  pub closes : IsTrue new.shelf.is_honest → (file : File) → StandsFor (joined_file parts) old.shelf file
      → EndsCopy (file_schema parts.file) file (unit_file old.shelf (unit_of_pages parts.pages))
      (unit_file new.shelf (unit_of_pages parts.pages)) result
  pub others : KeepsOthers (unit_of_pages parts.pages) old.shelf new.shelf
  pub count : old.faults ≤ new.faults
  pub cause : IfErr result (IsClosingCause (FaultsRose old.faults new.faults))

-- the file has so many records, and is closed and settled, or its closing failed
abbrev pub HasCounted : Schema → File → DeviceFile → FileBuilt → Type 0
HasCounted schema file new (Closed count) =
    IsSettled new × AreClosed schema file (content new) × (count ≡ length file.rows)
HasCounted schema file new (Unclosed count fault) = count ≡ length file.rows
HasCounted schema file new OutOfOrder = ⊥
HasCounted schema file new Clash = ⊥

-- so, where at each moment a crash leaves the file closed or refused
pub record EndsCounted (schema : Schema) (file : File) (old new : DeviceFile) (built : FileBuilt) : Type 0 where
  pub images : Throughout (ClosedFileOrRefused schema file) old new
  pub ends : HasCounted schema file new built

-- where its closing failed, it was for this cause
abbrev pub IsUnclosedFor : (failed : Type 0) → FileBuilt → Type 0
IsUnclosedFor failed (Closed count) = ⊤
IsUnclosedFor failed (Unclosed count fault) = IsDeviceFault failed fault
IsUnclosedFor failed OutOfOrder = ⊤
IsUnclosedFor failed Clash = ⊤

-- a call that closes a file, and tells how many records it has
pub record ClosesWithCount (parts : FileParts) (old new : CountedShelf) (built : FileBuilt) : Type 0 where
  pub closes : IsTrue new.shelf.is_honest → (file : File) → StandsFor (joined_file parts) old.shelf file
      → EndsCounted (file_schema parts.file) file (unit_file old.shelf (unit_of_pages parts.pages))
      (unit_file new.shelf (unit_of_pages parts.pages)) built
  pub others : KeepsOthers (unit_of_pages parts.pages) old.shelf new.shelf
  pub count : old.faults ≤ new.faults
  pub cause : IsUnclosedFor (FaultsRose old.faults new.faults) built

-- the same, of shelves that show this state and count their faults so
module _ {H : Type 0} (state : H → ShelfState) (count : H → ℕ) where
  abbrev pub ClosesCopy : FileParts → H → H → Result Copied CopyingFault → Type 0
  ClosesCopy parts old new result = ClosesNew parts (counted_shelf (state old) (count old))
      (counted_shelf (state new) (count new)) result

  abbrev pub ClosesToCount : FileParts → H → H → FileBuilt → Type 0
  ClosesToCount parts old new result = ClosesWithCount parts (counted_shelf (state old) (count old))
      (counted_shelf (state new) (count new)) result

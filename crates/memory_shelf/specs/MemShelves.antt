-- What a shelf in memory shows, and what its calls leave.
use Rattle.std.specs.Prelude.{◌≡◌, ℕ, List, true, false, map, Result, IsOk, IfOk}
use Rattle.io_state.specs.declared.fault.Fault.{Fault}
use Rattle.page_store.specs.DeviceFile.{DeviceFile, absent}
use Rattle.page_store.specs.ShelfState.{ShelfState, unit_file}
use Rattle.memory_shelf.specs.CrashImages.{Crashed}
use Rattle.memory_shelf.specs.MemFiles.{is_file_of_name, device_file_of, file_by_name}
use Rattle.memory_shelf.specs.declared.crash.Image.{Image}
use Rattle.memory_shelf.specs.declared.memory_file.MemFile.{MemFile}
use Rattle.memory_shelf.specs.declared.memory_shelf.MemShelf.{MemShelf}

abbrev pub mem_state_of : MemShelf → ShelfState
mem_state_of shelf = record {
  names = map (λ name. name.bytes) shelf.units.items;
  file = file_by_name shelf.files.items;
  is_honest = true;
}

-- a call that never fails, and only answers
pub record AnswersAlways {X : Type 0} (unit : ℕ) (IsTold : DeviceFile → X → Type 0) (old new : MemShelf)
    (result : Result X Fault) : Type 0 where
  pub never : IsOk result
  pub answer : IfOk result (λ x. IsTold (unit_file (mem_state_of old) unit) x)
  pub stays : new ≡ old

-- each file is what this crash leaves
abbrev pub EachCrashed : Image → ShelfState → ShelfState → Type 0
EachCrashed image old new = (name : List ℕ) → Crashed image (old.file name) (new.file name)

-- among files without one of its name, what this crash leaves of a file was added
abbrev pub AddsCrashed : Image → MemFile → List MemFile → List MemFile → Type 0
AddsCrashed image file old new =
    (name : List ℕ) → is_file_of_name file name ≡ true → file_by_name old name ≡ absent
    → Crashed image (device_file_of file) (file_by_name new name)

-- the files of every other name than that of this one are as they were
abbrev pub KeepsOthersThan : MemFile → List MemFile → List MemFile → Type 0
KeepsOthersThan file old new = (name : List ℕ) → is_file_of_name file name ≡ false
    → file_by_name new name ≡ file_by_name old name

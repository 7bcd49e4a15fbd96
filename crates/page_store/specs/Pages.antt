-- The pages of a file.
use Rattle.std.specs.Prelude.{◌≡◌, ℕ, zero, suc, ◌+◌, ◌-◌, ◌*◌, ◌/◌, ◌^◌, min, max, Bool, IsTrue, List}
use Rattle.std.specs.Prelude.{length, drop}
use Rattle.page_store.specs.DeviceFile.{DeviceFile, content, IsWithin}
use Rattle.page_store.specs.Calls.{WrittenAt, WriteFails}
use Rattle.page_store.specs.declared.store.Store.{Store}

-- how many pages these bytes fill, as far as 32 bits can count
abbrev pub whole_pages : List ℕ → ℕ
whole_pages bytes = min (length bytes / 4096) (2 ^ 32 - 1)

-- the first byte of the file is no byte of a page that a write changes
abbrev pub offset_of : ℕ → ℕ
offset_of zero = 1
offset_of (suc n) = 4096 * suc n

abbrev pub length_of_part : ℕ → ℕ
length_of_part zero = 4095
length_of_part (suc n) = 4096

abbrev pub part_of_page : ℕ → List ℕ → List ℕ
part_of_page zero page = drop 1 page
part_of_page (suc n) page = page

-- page n is written, and no other byte
abbrev pub PageWritten : ℕ → List ℕ → DeviceFile → DeviceFile → Type 0
PageWritten n page old new = WrittenAt (offset_of n) (part_of_page n page) old new

-- page n may hold anything, but for the first byte of the file, and no other byte has changed
abbrev pub PageFails : ℕ → DeviceFile → DeviceFile → Type 0
PageFails n old new = WriteFails (offset_of n) (length_of_part n) old new

-- the file reaches to the end of page n
abbrev pub ReachesPage : ℕ → DeviceFile → DeviceFile → Type 0
ReachesPage n old new = IsWithin (offset_of n + length_of_part n) new

-- the file is there, with its gate and these pages
abbrev pub HoldsPages : ℕ → DeviceFile → Type 0
HoldsPages pages file = IsWithin (max 1 (4096 * pages)) file

-- the store is of this unit and counts the pages of this file, where the shelf is honest
pub record IsStoreOf (store : Store) (unit : ℕ) (honest : Bool) (file : DeviceFile) : Type 0 where
  pub named : store.unit ≡ unit
  pub pages : IsTrue honest → store.pages ≡ whole_pages (content file)
  pub whole : IsTrue honest → IsWithin (4096 * store.pages) file

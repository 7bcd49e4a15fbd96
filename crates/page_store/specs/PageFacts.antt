-- What the layers above use of pages that were written.
use Rattle.std.specs.Prelude.{◌≡◌, ℕ, zero, suc, ◌<◌, ◌≤◌, List, ◌++◌, length, take, drop}
use Rattle.page_store.specs.DeviceFile.{DeviceFile, content, page_of_bytes}
use Rattle.page_store.specs.Pages.{PageWritten, PageFails, HoldsPages}

-- page n of these bytes once this page is written, which leaves the first byte of the file
abbrev pub page_over : ℕ → List ℕ → List ℕ → List ℕ
page_over zero old page = take 1 old ++ drop 1 page
page_over (suc n) old page = page

-- page n reads back what was last written to it
abbrev pub WrittenIsRead : Type 0
WrittenIsRead = (f g : DeviceFile) (n : ℕ) (page : List ℕ) → HoldsPages n f → length page ≡ 4096
    → PageWritten n page f g → page_of_bytes (content g) n ≡ page_over n (content f) page

-- and every other page reads as before
abbrev pub OthersRead : Type 0
OthersRead = (f g : DeviceFile) (pages n m : ℕ) (page : List ℕ) → HoldsPages pages f → n ≤ pages → m < pages
    → ¬ (m ≡ n) → length page ≡ 4096
    → PageWritten n page f g → page_of_bytes (content g) m ≡ page_of_bytes (content f) m

-- also where the write failed
abbrev pub OthersKept : Type 0
OthersKept = (f g : DeviceFile) (pages n m : ℕ) → HoldsPages pages f → m < pages → ¬ (m ≡ n)
    → PageFails n f g → page_of_bytes (content g) m ≡ page_of_bytes (content f) m

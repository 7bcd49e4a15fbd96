-- A page that nothing reaches.
use Rattle.std.specs.Prelude.{◌≡◌, ℕ, ◌+◌, ◌<◌, ◌≤◌, Bool, not, List, [], Option, Some, length, position}
use Rattle.std.specs.Prelude.{slice_index_or}
use Rattle.pages.specs.Owners.{IsOutside}
use Rattle.page_alloc.specs.Chain.{chain}
use Rattle.pages.specs.declared.fault_place.FaultPlace.{FaultPlace}
use Rattle.pages.specs.declared.fault_place.FaultPlace.TheVariants.{Page}
use Rattle.pages.specs.PageList.{pages_in}
use Rattle.pages.specs.Parted.{all_of}
use Rattle.open_file.specs.Parts.{heap_pages, prime_pages, alternate_pages}
use Rattle.record_heap.specs.Standing.{HeapStands, slot_shape}
use Rattle.record_heap.specs.Walk.{slots_of}
use Rattle.bplus_tree.specs.declared.tree.Tree.{Tree}
use Rattle.bplus_tree.specs.Standing.{TreeStands}
use Rattle.key_index.specs.declared.alt_index.AltIndex.{AltIndex}
use Rattle.open_file.specs.declared.first_page.Header.{Header}
use Rattle.open_file.specs.Fields.{alternates_of, heap_of, prime_index_of}
use Rattle.open_file.specs.declared.open_file.OpenFile.{OpenFile}
use Rattle.open_file.specs.Headers.{IsOpenedBy}

-- the tree stands in these pages
abbrev pub IsTreeInList : Tree → List (List ℕ) → List ℕ → Type 0
IsTreeInList tree list own = (entries : List (List ℕ)) × TreeStands tree (pages_in list) entries own

-- Each part of the file stands in pages of its own, and this page is in none of them; nor is it the
-- first page, or free. Part 0 is the heap, part 1 the prime index, part j + 2 alternate index j.
pub record LeavesOut (header : Header) (list : List (List ℕ)) (n : ℕ) : Type 0 where
  pub within : n < length list
  pub some : 1 ≤ n
  pub free : List ℕ
  pub free_are : chain (λ m. slice_index_or list m []) (length list) header.first_free header.free ≡ Some free
  pub not_free : IsOutside free n
  pub opened : OpenFile
  pub by_header : IsOpenedBy header opened
  pub owns : List (List ℕ)
  pub owners : length owns ≡ length (alternates_of opened) + 2
  pub heap : HeapStands (heap_of opened) (pages_in list)
      (slots_of (slot_shape (heap_of opened)) (pages_in list) (heap_pages owns)) (heap_pages owns)
  pub prime : IsTreeInList (prime_index_of opened).tree list (prime_pages owns)
  pub alternates : (j : ℕ) (index : AltIndex) → j < length (alternates_of opened)
      → index ≡ slice_index_or (alternates_of opened) j index
      → IsTreeInList index.tree list (alternate_pages owns j)
  pub outside : IsOutside (all_of owns) n

-- a page that is told is such a page
abbrev pub IsLostAt : Header → List (List ℕ) → FaultPlace → Type 0
IsLostAt header list place = (n : ℕ) × LeavesOut header list n × (place ≡ Page n)

-- the first page without a mark
abbrev pub first_unmarked : List Bool → Option ℕ
first_unmarked marks = position (λ is_marked. not is_marked) marks

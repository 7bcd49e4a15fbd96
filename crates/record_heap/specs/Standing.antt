-- A heap in the pages that it owns.
use Rattle.std.specs.Prelude.{◌≡◌, ℕ, List, [], ◌∷◌, Option, Some, IsSome}
use Rattle.pages.specs.Each.{Each}
use Rattle.pages.specs.PageMap.{PageMap}
use Rattle.pages.specs.Owners.{AreApart}
use Rattle.record_heap.specs.declared.shape.SlotShape.{SlotShape}
use Rattle.record_heap.specs.declared.shape.Place.{Place}
use Rattle.record_heap.specs.declared.heap.Heap.{Heap}
use Rattle.record_heap.specs.Slot.{room}
use Rattle.record_heap.specs.Chain.{Slots, KeepsSlots}
use Rattle.record_heap.specs.Calls.{used_at, behind_at, IsHeapAt}

-- the shape of its slots, the first page of its chain, and its first free slot
abbrev pub slot_shape : Heap → SlotShape
slot_shape heap = heap.shape

abbrev pub first_heap_page : Heap → ℕ
first_heap_page heap = heap.first

abbrev pub first_free_slot : Heap → Place
first_free_slot heap = heap.free

abbrev pub heap_with : SlotShape → ℕ → Place → Heap
heap_with shape first free = record { shape = shape; first = first; free = free }

-- the chain of heap pages from the first on; page 0 is none
abbrev pub IsPageChain : PageMap → ℕ → List ℕ → Type 0
IsPageChain pages first [] = first ≡ 0
IsPageChain pages first (n ∷ ns) = (first ≡ n) × ((next : ℕ) × IsHeapAt pages n next
    × IsPageChain pages next ns)

-- these pages are the heap's, and stand for these records
pub record HeapStands (heap : Heap) (pages : PageMap) (slots : Slots) (own : List ℕ) : Type 0 where
  pub chain : IsPageChain pages heap.first own
  pub apart : AreApart own
  pub keeps : KeepsSlots (room heap.shape) own (used_at heap.shape pages)
      (behind_at heap.shape pages) slots heap.free

-- what is read off the pages at a place, whether they stand for anything or not
abbrev pub slot_off : Heap → PageMap → Place → Option (List ℕ)
slot_off heap pages place = used_at heap.shape pages place

-- what is read off is what stands
abbrev pub slots_read_off : Type 0
slots_read_off = (heap : Heap) (pages : PageMap) (slots : Slots) (own : List ℕ) (place : Place)
    (bytes : List ℕ)
    → HeapStands heap pages slots own → slots place ≡ Some bytes → slot_off heap pages place ≡ Some bytes

-- a heap stands while its own pages stay as they are
abbrev pub kept_by_its_pages : Type 0
kept_by_its_pages = (heap : Heap) (before after : PageMap) (slots : Slots) (own : List ℕ)
    → Each (λ n. after n ≡ before n) own → HeapStands heap before slots own → HeapStands heap after slots own

-- its own pages are in use
abbrev pub own_pages_live : Type 0
own_pages_live = (heap : Heap) (pages : PageMap) (slots : Slots) (own : List ℕ)
    → HeapStands heap pages slots own → Each (λ n. IsSome (pages n)) own

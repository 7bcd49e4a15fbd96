-- What a walk finds of a heap in pages that were read.
use Rattle.std.specs.Prelude.{◌≡◌, ◌⊎◌, ℕ, ◌≤◌, ◌<◌, ◌^◌, ◌==◌, ◌&&◌, nat_lt, Bool, true, false, List, []}
use Rattle.std.specs.Prelude.{◌∷◌, Option, Some, None, Result, IfOk, if◌then◌else◌}
use Rattle.std.specs.Global.{Vec}
use Rattle.pages.specs.Each.{Each}
use Rattle.pages.specs.Owners.{AreApart}
use Rattle.pages.specs.PageMap.{PageMap}
use Rattle.record_heap.specs.declared.shape.SlotShape.{SlotShape}
use Rattle.record_heap.specs.declared.shape.Place.{Place}
use Rattle.record_heap.specs.declared.heap.Heap.{Heap}
use Rattle.record_heap.specs.Slot.{room, used_in, behind_in}
use Rattle.record_heap.specs.Chain.{Slots, KeepsSlots}
use Rattle.record_heap.specs.Calls.{used_at, behind_at, IsHeapAt}
use Rattle.record_heap.specs.Standing.{HeapStands, IsPageChain}
use Rattle.pages.specs.Marks.{IsUnmarked, Marks, marked_in}
use Rattle.pages.specs.PageList.{pages_in}

-- these heap pages lead from the first one to this
abbrev pub IsPagePath : PageMap → ℕ → List ℕ → ℕ → Type 0
IsPagePath pages first [] at = first ≡ at
IsPagePath pages first (n ∷ ns) at = (first ≡ n)
    × ((next : ℕ) × IsHeapAt pages n next × IsPagePath pages next ns at)

-- these pages were reached from the first one, and this one is next
pub record PagesWalked (pages : PageMap) (first at : ℕ) (before after : ℕ → Bool)
    (own : List ℕ) : Type 0 where
  pub path : IsPagePath pages first own at
  pub some : Each (λ n. 1 ≤ n) own
  pub low : Each (λ n. n < 2 ^ 32) own
  pub marks : Marks before after own

abbrev pub is_in_list : List ℕ → ℕ → Bool
is_in_list [] n = false
is_in_list (m ∷ ms) n = if n == m then true else is_in_list ms n

-- the records in the slots of these pages
abbrev pub slots_of : SlotShape → PageMap → List ℕ → Slots
slots_of shape pages own p = if is_in_list own p.page
    && nat_lt p.slot (room shape) then used_at shape pages p else None

-- the slot of a place is in use
abbrev pub IsUsedAt : SlotShape → PageMap → Place → Type 0
IsUsedAt shape pages p = (bytes : List ℕ) × (used_at shape pages p ≡ Some bytes)

-- the slot of a place is free
abbrev pub IsFreeAt : SlotShape → PageMap → Place → Type 0
IsFreeAt shape pages p = (next : Place) × (behind_at shape pages p ≡ Some next)

-- these free slots lead from the first one to this
abbrev pub IsFreePath : (Place → Option Place) → Place → List Place → Place → Type 0
IsFreePath behind first [] at = first ≡ at
IsFreePath behind first (p ∷ ps) at = (first ≡ p)
    × ((next : Place) × (behind p ≡ Some next) × IsFreePath behind next ps at)

-- a walk of the chain of heap pages, which marks them and answers them
abbrev pub WalksChain : {E : Type 0} → List (List ℕ) → ℕ → List Bool → List Bool → Result (Vec ℕ) E → Type 0
WalksChain pages first before after result =
    IfOk result (λ own. PagesWalked (pages_in pages) first 0 (marked_in before) (marked_in after) own.items)

-- each slot of these pages is in use, or stands once in the chain of free slots
abbrev pub SlotsKept : Heap → PageMap → List ℕ → Type 0
SlotsKept heap pages own =
    Each (λ n. 1 ≤ n) own → KeepsSlots (room heap.shape) own (used_at heap.shape pages)
    (behind_at heap.shape pages) (slots_of heap.shape pages own) heap.free

-- the heap stands in pages of which none was reached
pub record HeapAhead (heap : Heap) (list : List (List ℕ)) (reached : List Bool) : Type 0 where
  pub slots : Slots
  pub own : List ℕ
  pub stands : HeapStands heap (pages_in list) slots own
  pub some : Each (λ n. 1 ≤ n) own
  pub low : Each (λ n. n < 2 ^ 32) own
  pub unmarked : Each (IsUnmarked reached) own

-- a chain of heap pages from the first one on, of which none was reached
pub record ChainAhead (pages : PageMap) (first : ℕ) (reached : List Bool) : Type 0 where
  pub own : List ℕ
  pub chain : IsPageChain pages first own
  pub apart : AreApart own
  pub some : Each (λ n. 1 ≤ n) own
  pub low : Each (λ n. n < 2 ^ 32) own
  pub unmarked : Each (IsUnmarked reached) own

-- the page is a heap page
abbrev pub IsHeapPageAt : PageMap → ℕ → Type 0
IsHeapPageAt pages n = (next : ℕ) × (next < 2 ^ 32) × IsHeapAt pages n next

-- the slot is free, or in use
abbrev pub IsFreeOrUsed : SlotShape → List ℕ → Type 0
IsFreeOrUsed shape slot = ((next : Place) × (behind_in slot ≡ Some next))
    ⊎ ((found : List ℕ) × (used_in shape slot ≡ Some found))

-- the heap stands, and its own pages are these
pub record OwnStands (heap : Heap) (list : List (List ℕ)) (own : List ℕ) : Type 0 where
  pub slots : Slots
  pub stands : HeapStands heap (pages_in list) slots own
  pub some : Each (λ n. 1 ≤ n) own

-- a walk of a heap, which answers its own pages and marks them
pub record WalksHeap {E : Type 0} (heap : Heap) (pages : List (List ℕ)) (before after : List Bool)
    (result : Result (Vec ℕ) E) : Type 0 where
  pub stands : IfOk result (λ own. HeapStands heap (pages_in pages)
      (slots_of heap.shape (pages_in pages) own.items) own.items)
  pub marks : IfOk result (λ own. Marks (marked_in before) (marked_in after) own.items)

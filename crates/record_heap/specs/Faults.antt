-- What is wrong with a heap, and where.
use Rattle.std.specs.Prelude.{◌≡◌, ◌≢◌, ◌⊎◌, ℕ, ◌<◌, ◌≤◌, Bool, List, [], ◌∷◌, length, ⊤}
use Rattle.pages.specs.Each.{Each}
use Rattle.pages.specs.declared.fault_place.FaultPlace.{FaultPlace}
use Rattle.pages.specs.declared.fault_place.FaultPlace.TheVariants.{Page, Entry}
use Rattle.pages.specs.declared.damage.Damage.{Damage}
use Rattle.pages.specs.declared.damage.Damage.TheVariants.{Shared, Node, Order, Heap as BrokenHeap}
use Rattle.pages.specs.declared.damage.Damage.TheVariants.{Index, Lost}
use Rattle.pages.specs.declared.walk_fault.WalkFault.{WalkFault}
use Rattle.pages.specs.declared.walk_fault.WalkFault.TheVariants.{Memory, At}
use Rattle.pages.specs.Marks.{IsUnmarked}
use Rattle.pages.specs.PageList.{pages_in}
use Rattle.pages.specs.Owners.{AreApart}
use Rattle.record_heap.specs.declared.shape.SlotShape.{SlotShape}
use Rattle.record_heap.specs.declared.shape.Place.{Place}
use Rattle.record_heap.specs.declared.heap.Heap.{Heap}
use Rattle.record_heap.specs.Slot.{room}
use Rattle.record_heap.specs.Chain.{IsOneOf, IsFreeChain}
use Rattle.record_heap.specs.Calls.{behind_at, slot_of}
use Rattle.record_heap.specs.Standing.{IsPageChain}
use Rattle.record_heap.specs.Walk.{IsFreeAt, IsFreeOrUsed, IsFreePath, IsHeapPageAt, IsPagePath}

-- where a slot is told
abbrev pub slot_place : Place → FaultPlace
slot_place p = Entry p.page p.slot

-- the last of some heap pages, or page 0
abbrev pub last_heap_page : List ℕ → ℕ
last_heap_page [] = 0
last_heap_page (n ∷ []) = n
last_heap_page (n ∷ m ∷ ns) = last_heap_page (m ∷ ns)

-- the last of some slots, or page 0
abbrev pub last_slot_place : List Place → FaultPlace
last_slot_place [] = Page 0
last_slot_place (p ∷ []) = slot_place p
last_slot_place (p ∷ q ∷ ps) = last_slot_place (q ∷ ps)

-- the page that leads to page n is told where n is none of the list; or n is, where it is no heap page
abbrev pub TellsOfPage : List (List ℕ) → (from n : ℕ) → WalkFault → Type 0
TellsOfPage list from n fault = ((fault ≡ At BrokenHeap (Page from)) × (length list ≤ n))
    ⊎ ((fault ≡ At BrokenHeap (Page n)) × (n < length list) × (IsHeapPageAt (pages_in list) n → ⊥))

-- This is wrong behind heap pages that lead from the first one to page n: n had its mark before, or is
-- one of them; it is none of the list, or no heap page; or they are as many as there are marks.
abbrev pub IsFaultBehindPages : List (List ℕ) → List Bool → List ℕ → ℕ → Damage → FaultPlace → Type 0
IsFaultBehindPages list marks own n Shared place =
    (place ≡ Page n) × (n < length list) × (IsUnmarked marks n → IsOneOf own n)
IsFaultBehindPages list marks own n BrokenHeap place = TellsOfPage list (last_heap_page own) n (At BrokenHeap place)
    ⊎ ((length own ≡ length marks) × (place ≡ Page (last_heap_page own)))
IsFaultBehindPages list marks own n Node place = ⊥
IsFaultBehindPages list marks own n Order place = ⊥
IsFaultBehindPages list marks own n Index place = ⊥
IsFaultBehindPages list marks own n Lost place = ⊥

-- so it is with the chain of heap pages, some pages of the list having their marks before
abbrev pub IsChainFault : List (List ℕ) → (first : ℕ) → List Bool → Damage → FaultPlace → Type 0
IsChainFault list first marks fault place = (own : List ℕ) × (n : ℕ)
    × IsPagePath (pages_in list) first own n × (n ≢ 0) × IsFaultBehindPages list marks own n fault place

-- that memory ran out, or that a chain is broken, and where, of which this holds
abbrev pub TellsOfChain : (FaultPlace → Type 0) → WalkFault → Type 0
TellsOfChain Holds Memory = ⊤
TellsOfChain Holds (At fault place) = (fault ≡ BrokenHeap) × Holds place

-- a slot of these pages is neither free nor in use
pub record IsWrongSlot (shape : SlotShape) (list : List (List ℕ)) (own : List ℕ)
    (place : FaultPlace) : Type 0 where
  pub slot : Place
  pub page : IsOneOf own slot.page
  pub within : slot.slot < room shape
  pub told : place ≡ slot_place slot
  pub wrong : IsFreeOrUsed shape (slot_of shape (pages_in list) slot) → ⊥

-- the slot is a free one of these pages
pub record IsFreeSlotOf (shape : SlotShape) (list : List (List ℕ)) (own : List ℕ) (p : Place) : Type 0 where
  pub page : IsOneOf own p.page
  pub within : p.slot < room shape
  pub free : IsFreeAt shape (pages_in list) p

-- Free slots of these pages lead from the first one to a place that is no free slot of them, or is one
-- of those that lead there. The last of these is told, or page 0 where there is none.
pub record BreaksFreeChain (shape : SlotShape) (list : List (List ℕ)) (own : List ℕ) (first : Place)
    (place : FaultPlace) : Type 0 where
  pub free : List Place
  pub at : Place
  pub path : IsFreePath (behind_at shape (pages_in list)) first free at
  pub each : Each (IsFreeSlotOf shape list own) free
  pub some : at.page ≢ 0
  pub told : place ≡ last_slot_place free
  pub wrong : IsFreeSlotOf shape list own at → IsOneOf free at

-- a free slot of these pages is none of the chain of free slots
pub record IsLeftOut (shape : SlotShape) (list : List (List ℕ)) (own : List ℕ) (first : Place)
    (place : FaultPlace) : Type 0 where
  pub slot : Place
  pub is : IsFreeSlotOf shape list own slot
  pub told : place ≡ slot_place slot
  pub free : List Place
  pub chain : IsFreeChain (behind_at shape (pages_in list)) first free
  pub out : IsOneOf free slot → ⊥

-- one of these is wrong with the slots of these pages
abbrev pub IsSlotFault : Heap → List (List ℕ) → List ℕ → FaultPlace → Type 0
IsSlotFault heap list own place = IsWrongSlot heap.shape list own place
    ⊎ (BreaksFreeChain heap.shape list own heap.free place ⊎ IsLeftOut heap.shape list own heap.free place)

-- these pages are there, and none stands twice among them
pub record AreOwnPages (list : List (List ℕ)) (own : List ℕ) : Type 0 where
  pub there : Each (λ n. n < length list) own
  pub apart : AreApart own

-- the heap pages are a chain, and so it is with their slots
pub record HasSlotFault (heap : Heap) (list : List (List ℕ)) (place : FaultPlace) : Type 0 where
  pub own : List ℕ
  pub chain : IsPageChain (pages_in list) heap.first own
  pub pages : AreOwnPages list own
  pub wrong : IsSlotFault heap list own place

-- this is wrong with a heap, some pages of the list having their marks before
abbrev pub IsHeapFault : Heap → List (List ℕ) → List Bool → Damage → FaultPlace → Type 0
IsHeapFault heap list marks Shared place = IsChainFault list heap.first marks Shared place
IsHeapFault heap list marks BrokenHeap place =
    IsChainFault list heap.first marks BrokenHeap place ⊎ HasSlotFault heap list place
IsHeapFault heap list marks Node place = ⊥
IsHeapFault heap list marks Order place = ⊥
IsHeapFault heap list marks Index place = ⊥
IsHeapFault heap list marks Lost place = ⊥

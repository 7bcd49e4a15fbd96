-- What is wrong with the slots of a heap, by marks on them.
use Rattle.std.specs.Prelude.{◌≡◌, ◌≢◌, ◌⊎◌, ℕ, ◌<◌, true, List, length}
use Rattle.pages.specs.Each.{Each}
use Rattle.pages.specs.declared.fault_place.FaultPlace.{FaultPlace}
use Rattle.pages.specs.declared.damage.Damage.TheVariants.{Heap}
use Rattle.pages.specs.declared.walk_fault.WalkFault.{WalkFault}
use Rattle.pages.specs.declared.walk_fault.WalkFault.TheVariants.{At}
use Rattle.pages.specs.PageList.{pages_in}
use Rattle.record_heap.specs.declared.shape.SlotShape.{SlotShape}
use Rattle.record_heap.specs.declared.shape.Place.{Place}
use Rattle.page_walks.specs.declared.slot_marks.SlotMarks.{SlotMarks}
use Rattle.record_heap.specs.Slot.{room}
use Rattle.record_heap.specs.Slots.{slot_at}
use Rattle.record_heap.specs.Chain.{AreOnce, IsOneOf}
use Rattle.record_heap.specs.Calls.{behind_at}
use Rattle.page_walks.specs.SlotMarks.{HasMark, marked_slot}
use Rattle.record_heap.specs.Walk.{IsFreeAt, IsFreeOrUsed, IsFreePath}
use Rattle.page_walks.specs.SlotWalk.{IsMarkedFree}
use Rattle.record_heap.specs.Faults.{AreOwnPages, IsWrongSlot, TellsOfChain, last_slot_place, slot_place}

-- slot p is neither free nor in use, where it has its mark, and is one of page n
pub record IsWrongOfPage (shape : SlotShape) (page : List ℕ) (n : ℕ) (marks : SlotMarks)
    (place : FaultPlace) : Type 0 where
  pub slot : Place
  pub on : slot.page ≡ n
  pub within : slot.slot < room shape
  pub told : place ≡ slot_place slot
  pub wrong : HasMark marks slot → IsFreeOrUsed shape (slot_at shape page slot.slot) → ⊥

-- each slot of these pages has its mark
abbrev pub HaveMarks : SlotShape → (own : List ℕ) → SlotMarks → Type 0
HaveMarks shape own marks = (p : Place) → IsOneOf own p.page → p.slot < room shape → HasMark marks p

-- that memory ran out, or a slot of these pages that is neither free nor in use, where the pages are
-- there, none of them twice, and have their marks
abbrev pub TellsOfOwn : SlotShape → List (List ℕ) → (own : List ℕ) → SlotMarks → WalkFault → Type 0
TellsOfOwn shape list own marks fault = AreOwnPages list own → HaveMarks shape own marks
    → TellsOfChain (IsWrongSlot shape list own) fault

-- the place that leads to a slot is told; or the slot is, where it has a mark and is not free
abbrev pub TellsOfSlot : SlotShape → List (List ℕ) → SlotMarks → FaultPlace → Place → WalkFault → Type 0
TellsOfSlot shape list marks from at fault = (fault ≡ At Heap from)
    ⊎ ((fault ≡ At Heap (slot_place at)) × (at.slot < room shape) × (marked_slot marks at ≡ true)
    × (IsFreeAt shape (pages_in list) at → ⊥))

-- This is wrong with a slot behind marked slots of a chain: it has no mark, or is one of them; or they
-- are as many as there are marks; or it has a mark, and is not free.
abbrev pub IsFaultBehindSlots : SlotShape → List (List ℕ) → SlotMarks → List Place → Place → FaultPlace → Type 0
IsFaultBehindSlots shape list marks free at place =
    ((place ≡ last_slot_place free) × (IsMarkedFree shape list marks at → IsOneOf free at))
    ⊎ (((place ≡ last_slot_place free) × (length free ≡ marks.slots))
    ⊎ ((place ≡ slot_place at) × (at.slot < room shape) × (marked_slot marks at ≡ true)
    × (IsFreeAt shape (pages_in list) at → ⊥)))

-- so it is with the chain of slots from the first one on
pub record IsLinkFault (shape : SlotShape) (list : List (List ℕ)) (first : Place) (marks : SlotMarks)
    (place : FaultPlace) : Type 0 where
  pub free : List Place
  pub at : Place
  pub path : IsFreePath (behind_at shape (pages_in list)) first free at
  pub once : AreOnce free
  pub were : Each (λ p. (p.slot < room shape) × (marked_slot marks p ≡ true)) free
  pub some : at.page ≢ 0
  pub wrong : IsFaultBehindSlots shape list marks free at place

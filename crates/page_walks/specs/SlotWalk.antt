-- What a walk finds of the slots of a heap, by marks on them.
use Rattle.std.specs.Prelude.{◌≡◌, ◌≢◌, ◌⊎◌, ℕ, ◌≤◌, ◌<◌, true, false, List}
use Rattle.std.specs.Prelude.{Some, length}
use Rattle.pages.specs.Each.{Each}
use Rattle.pages.specs.PageMap.{PageMap}
use Rattle.record_heap.specs.declared.shape.SlotShape.{SlotShape}
use Rattle.record_heap.specs.declared.shape.Place.{Place}
use Rattle.record_heap.specs.Slot.{room, used_in, behind_in}
use Rattle.record_heap.specs.Slots.{slot_at}
use Rattle.record_heap.specs.Chain.{IsOneOf, IsFreeChain, AreOnce}
use Rattle.record_heap.specs.Calls.{slot_of, behind_at}
use Rattle.page_walks.specs.declared.slot_marks.SlotMarks.{SlotMarks}
use Rattle.page_walks.specs.SlotMarks.{HasMark, marked_slot, SetsMark}
use Rattle.pages.specs.PageList.{pages_in}
use Rattle.record_heap.specs.Walk.{IsFreeAt, IsFreeOrUsed, IsFreePath, IsUsedAt}

-- a slot with these bytes is free and marked now, or it is in use and nothing has changed
abbrev pub SlotMarked : SlotShape → List ℕ → Place → SlotMarks → SlotMarks → Type 0
SlotMarked shape bytes place before after =
    (((next : Place) × (behind_in bytes ≡ Some next)) × SetsMark place true before after)
    ⊎ (((found : List ℕ) × (used_in shape bytes ≡ Some found)) × (after ≡ before))

-- the first slots of page n, so many, are marked where they are free, and in use else
pub record PageMarked (shape : SlotShape) (page : List ℕ) (n count : ℕ) (before after : SlotMarks) : Type 0 where
  pub free : (p : Place) → p.page ≡ n → p.slot < count → marked_slot after p ≡ true
      → (marked_slot before p ≡ true) ⊎ ((next : Place)
      × (behind_in (slot_at shape page p.slot) ≡ Some next))
  pub every : (p : Place) → p.page ≡ n → p.slot < count → (marked_slot after p ≡ true)
      ⊎ ((bytes : List ℕ) × (used_in shape (slot_at shape page p.slot) ≡ Some bytes))
  pub others : (p : Place) → (p.page ≢ n) ⊎ (count ≤ p.slot) → marked_slot after p ≡ marked_slot before p

-- the mark of a free slot was taken, and this one is behind it
pub record TakesMark (shape : SlotShape) (pages : PageMap) (at next : Place)
    (before after : SlotMarks) : Type 0 where
  pub within : at.slot < room shape
  pub linked : behind_at shape pages at ≡ Some next
  pub was : marked_slot before at ≡ true
  pub sets : SetsMark at false before after

-- the free slots of these pages are marked, and each other slot of them is in use
pub record AreMarked (shape : SlotShape) (pages : PageMap) (own : List ℕ) (marks : SlotMarks) : Type 0 where
  pub free : (p : Place) → p.slot < room shape → marked_slot marks p ≡ true → IsOneOf own p.page
      × IsFreeAt shape pages p
  pub every : (p : Place) → p.slot < room shape → IsOneOf own p.page → (marked_slot marks p ≡ true)
      ⊎ IsUsedAt shape pages p

-- these marked slots were reached from the first one, and their marks taken; this one is next
pub record SlotsWalked (shape : SlotShape) (pages : PageMap) (first at : Place) (before after : SlotMarks)
    (free : List Place) : Type 0 where
  pub path : IsFreePath (behind_at shape pages) first free at
  pub once : AreOnce free
  pub were : Each (λ p. (p.slot < room shape) × ((marked_slot before p ≡ true)
      × (marked_slot after p ≡ false))) free
  pub every : (p : Place) → p.slot < room shape → marked_slot before p ≡ true
      → (marked_slot after p ≡ true) ⊎ IsOneOf free p
  pub only : (p : Place) → p.slot < room shape → marked_slot after p ≡ true → marked_slot before p ≡ true

-- the chain of free slots was walked from the first one to its end, and their marks taken
pub record EmptiesChain (shape : SlotShape) (pages : PageMap) (first : Place)
    (before after : SlotMarks) : Type 0 where
  pub at : Place
  pub last : at.page ≡ 0
  pub free : List Place
  pub walked : SlotsWalked shape pages first at before after free

-- each of the first slots of page n, so many, has its mark, and is free or in use
abbrev pub SlotsAhead : SlotShape → List ℕ → ℕ → ℕ → SlotMarks → Type 0
SlotsAhead shape page n count marks = (p : Place) → p.page ≡ n → p.slot < count
    → HasMark marks p × IsFreeOrUsed shape (slot_at shape page p.slot)

-- so is each slot of these pages, all of which are there
pub record OwnAhead (shape : SlotShape) (list : List (List ℕ)) (own : List ℕ) (marks : SlotMarks)
    : Type 0 where
  pub there : Each (λ n. n < length list) own
  pub slots : (p : Place) → IsOneOf own p.page → p.slot < room shape
      → HasMark marks p × IsFreeOrUsed shape (slot_of shape (pages_in list) p)

-- the slot is free, and marked
pub record IsMarkedFree (shape : SlotShape) (list : List (List ℕ)) (marks : SlotMarks) (p : Place)
    : Type 0 where
  pub within : p.slot < room shape
  pub there : p.page < length list
  pub marked : marked_slot marks p ≡ true
  pub can : HasMark marks p
  pub free : IsFreeAt shape (pages_in list) p

-- a chain of free slots from the first one on, all of them marked, no more than there are marks
pub record FreeSlotsAhead (shape : SlotShape) (list : List (List ℕ)) (first : Place) (most : ℕ)
    (marks : SlotMarks) : Type 0 where
  pub free : List Place
  pub chain : IsFreeChain (behind_at shape (pages_in list)) first free
  pub once : AreOnce free
  pub each : Each (IsMarkedFree shape list marks) free
  pub few : length free ≤ most

-- Marks on the slots of some pages.
use Rattle.std.specs.Prelude.{◌≡◌, ◌≢◌, ℕ, ◌+◌, ◌*◌, ◌<◌, ◌==◌, ◌&&◌, nat_lt, Bool, false, List, Some, length}
use Rattle.std.specs.Prelude.{slice_get, slice_index}
use Rattle.std.specs.Prelude.{if◌then◌else◌}
use Rattle.std.specs.Option.{option_map_or}
use Rattle.pages.specs.Owners.{AreApart}
use Rattle.record_heap.specs.declared.shape.Place.{Place}
use Rattle.record_heap.specs.Chain.{IsOneOf}
use Rattle.page_walks.specs.Bits.{bit_of}
use Rattle.page_walks.specs.declared.slot_marks.SlotMarks.{SlotMarks}

-- page n is the one at this position, and has a slot of this number
abbrev pub is_at : SlotMarks → ℕ → Place → Bool
is_at marks at p = option_map_or (λ n. n == p.page) (slice_get marks.own.now at) false
    && nat_lt p.slot marks.room

-- the mark of a slot, where the position of its page is this
abbrev pub mark_from : SlotMarks → Place → ℕ → Bool
mark_from marks p at = if is_at marks at p then bit_of marks.marks.words.items
    (at * marks.room + p.slot) else false

-- the slot is marked
abbrev pub marked_slot : SlotMarks → Place → Bool
marked_slot marks p = option_map_or (mark_from marks p) (slice_get marks.positions.items p.page) false

-- a slot of these pages
pub record IsSlotOf (marks : SlotMarks) (p : Place) : Type 0 where
  pub at : ℕ
  pub position : slice_get marks.positions.items p.page ≡ Some at
  pub page : slice_get marks.own.now at ≡ Some p.page
  pub slot : p.slot < marks.room

-- so, and there is a bit for its mark
pub record HasMark (marks : SlotMarks) (p : Place) : Type 0 where
  pub one : IsSlotOf marks p
  pub inside : one.at * marks.room + p.slot < 64 * length marks.marks.words.items

-- there are as many marks, for the same slots
pub record SameSlots (before after : SlotMarks) : Type 0 where
  pub own : after.own.now ≡ before.own.now
  pub positions : after.positions.items ≡ before.positions.items
  pub room : after.room ≡ before.room
  pub slots : after.slots ≡ before.slots
  pub words : length after.marks.words.items ≡ length before.marks.words.items

-- where no page stands twice among these, each slot of them has its mark
pub record AreFor (own : List ℕ) (room : ℕ) (marks : SlotMarks) : Type 0 where
  pub many : marks.slots ≡ length own * room
  pub width : marks.room ≡ room
  pub every : AreApart own → (p : Place) → IsOneOf own p.page → p.slot < room → HasMark marks p

-- each of these pages, where none stands twice, has its place there by its number
abbrev pub ArePositions : List ℕ → List ℕ → Type 0
ArePositions own positions = AreApart own → (i : ℕ) → i < length own
    → slice_get positions (slice_index own i) ≡ Some i

-- the mark of a slot stands there
pub record MarkAt (marks : SlotMarks) (p : Place) (i : ℕ) : Type 0 where
  pub at : ℕ
  pub position : slice_get marks.positions.items p.page ≡ Some at
  pub page : slice_get marks.own.now at ≡ Some p.page
  pub slot : p.slot < marks.room
  pub is : i ≡ at * marks.room + p.slot

-- the slot of a place is marked now, or not, and every other one is as it was
pub record SetsMark (place : Place) (to : Bool) (before after : SlotMarks) : Type 0 where
  pub here : marked_slot after place ≡ to
  pub others : (p : Place) → p ≢ place → marked_slot after p ≡ marked_slot before p

-- The slots of a heap page.
use Rattle.std.specs.Prelude.{◌≡◌, ◌+◌, ◌<◌, ◌≤◌, ℕ, Some, nat_lt, List, [], ◌∷◌, ◌++◌, take, drop, length}
use Rattle.std.specs.Prelude.{replicate, slice_index_or, slice_set, if◌then◌else◌}
use Rattle.byteorder.specs.Endian.{big_bytes}
use Rattle.pages.specs.Chunks.{chunks}
use Rattle.record_heap.specs.declared.shape.SlotShape.{SlotShape}
use Rattle.record_heap.specs.declared.shape.Place.{Place}
use Rattle.record_heap.specs.Slot.{size, room, behind_in}

-- the slots, which begin behind the first 16 bytes
abbrev pub slots_in : SlotShape → List ℕ → List (List ℕ)
slots_in shape page = chunks (size shape) (room shape) (drop 16 page)

abbrev pub slot_at : SlotShape → List ℕ → ℕ → List ℕ
slot_at shape page i = slice_index_or (slots_in shape page) i []

-- the first 16 bytes of a heap page: 'H', three zeros, the next heap page, eight zeros
abbrev pub start_of : ℕ → List ℕ
start_of next = 72 ∷ 0 ∷ 0 ∷ 0 ∷ (big_bytes 4 next ++ replicate 8 0)

-- the page is a heap page, and this is the next one
pub record IsHeapPage (next : ℕ) (page : List ℕ) : Type 0 where
  pub size : length page ≡ 4096
  pub start : take 16 page ≡ start_of next

-- these are the bytes of slot i
pub record IsSlotAt (shape : SlotShape) (page : List ℕ) (i : ℕ) (slot : List ℕ) : Type 0 where
  pub value : slot ≡ slot_at shape page i
  pub len : length slot ≡ size shape

-- slot i has other bytes now, of which P holds, and nothing else has changed
pub record Edits (shape : SlotShape) (old new : List ℕ) (i : ℕ) (P : List ℕ → Type 0) : Type 0 where
  pub slot : List ℕ
  pub is : P slot
  pub slots : slots_in shape new ≡ slice_set (slots_in shape old) i slot
  pub start : take 16 new ≡ take 16 old
  pub long : length new ≡ length old

-- what is behind slot i of page n where all its slots are free, linked in rising order
abbrev pub behind_new : ℕ → ℕ → ℕ → Place
behind_new room n i = if nat_lt (i + 1) room then (record { page = n; slot = i + 1 }) else
    (record { page = 0; slot = 0 })

-- the first slots of page n, so many, are free and linked like this
abbrev pub AreLinked : SlotShape → ℕ → ℕ → List ℕ → Type 0
AreLinked shape n count page = (i : ℕ) → i < count
    → behind_in (slot_at shape page i) ≡ Some (behind_new (room shape) n i)

-- the page is the heap page n before the page `next`, and all its slots are free
pub record IsNewPage (shape : SlotShape) (n next : ℕ) (page : List ℕ) : Type 0 where
  pub heap : IsHeapPage next page
  pub linked : AreLinked shape n (room shape) page

-- the slots of page n from this one on are free, and linked in rising order
abbrev pub AreLinkedFrom : SlotShape → ℕ → ℕ → List ℕ → Type 0
AreLinkedFrom shape n from page = (i : ℕ) → from ≤ i → i < room shape
    → behind_in (slot_at shape page i) ≡ Some (behind_new (room shape) n i)

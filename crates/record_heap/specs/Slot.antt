-- The bytes of one slot of a heap page.
use Rattle.std.specs.Prelude.{◌≡◌, ◌≤◌, ◌<◌, ℕ, ◌+◌, ◌/◌, ◌==◌, ◌&&◌, nat_lt, nat_le, max, Bool, List, take}
use Rattle.std.specs.Prelude.{drop, length, ◌++◌, slice_index, Option, Some, None, option_map, if◌then◌else◌}
use Rattle.byteorder.specs.Endian.{big_number}
use Rattle.record_heap.specs.declared.shape.SlotShape.{SlotShape}
use Rattle.record_heap.specs.declared.shape.Place.{Place}

-- the records of the heap have several lengths
abbrev pub is_varying : SlotShape → Bool
is_varying shape = nat_lt shape.least shape.greatest

-- the bytes before the stamps of a slot in use: its mark, and the record's length where lengths vary
abbrev pub head : SlotShape → ℕ
head shape = if is_varying shape then 3 else 1

-- the bytes of a slot: a record of the greatest length, or the link of a free slot
abbrev pub size : SlotShape → ℕ
size shape = max (head shape + shape.stamps + shape.greatest) 7

-- the slots of a page
abbrev pub room : SlotShape → ℕ
room shape = 4080 / size shape

-- the length of the record in a slot in use
abbrev pub length_in_slot : SlotShape → List ℕ → ℕ
length_in_slot shape slot = if is_varying shape then big_number 2 (drop 1 slot) else shape.greatest

-- the slot is in use, with a record of a length that the heap takes
abbrev pub is_used : SlotShape → List ℕ → Bool
is_used shape slot = (slice_index slot 0 == 1) && (nat_le shape.least (length_in_slot shape slot)
    && nat_le (length_in_slot shape slot) shape.greatest)

-- the stamps and the record of a slot in use
abbrev pub used_in : SlotShape → List ℕ → Option (List ℕ)
used_in shape slot = if is_used shape slot then Some
    (take (shape.stamps + length_in_slot shape slot) (drop (head shape) slot)) else None

-- its record, without the stamps
abbrev pub record_in : SlotShape → List ℕ → Option (List ℕ)
record_in shape slot = option_map (λ bytes. drop shape.stamps bytes) (used_in shape slot)

-- the free slot behind a free one
abbrev pub behind_in : List ℕ → Option Place
behind_in slot = if slice_index slot 0 == 0 then Some
    (record { page = big_number 4 (drop 1 slot); slot = big_number 2 (drop 5 slot) }) else None

-- these bytes over the front of others
abbrev pub over_front : Option (List ℕ) → List ℕ → List ℕ
over_front None to = to
over_front (Some bytes) to = bytes ++ drop (length bytes) to

-- the stamps and the record are as long as a slot of the shape takes them
pub record FitsSlot (shape : SlotShape) (before behind : List ℕ) : Type 0 where
  pub stamps : length before ≡ shape.stamps
  pub least : shape.least ≤ length behind
  pub greatest : length behind ≤ shape.greatest

-- the slot is there whole, and takes these stamps and this record
pub record FitsIn (shape : SlotShape) (slot before behind : List ℕ) : Type 0 where
  pub whole : size shape ≤ length slot
  pub fits : FitsSlot shape before behind

-- so, where records have several lengths
pub record FitsVarying (shape : SlotShape) (slot before behind : List ℕ) : Type 0 where
  pub whole : size shape ≤ length slot
  pub varying : shape.least < shape.greatest
  pub fits : FitsSlot shape before behind

-- so, where they have one
pub record FitsFixed (shape : SlotShape) (slot before behind : List ℕ) : Type 0 where
  pub whole : size shape ≤ length slot
  pub fixed : shape.least ≡ shape.greatest
  pub fits : FitsSlot shape before behind

-- the slot is there whole, and `to` takes so many bytes
pub record MayFetch (shape : SlotShape) (slot to : List ℕ) (most : ℕ) : Type 0 where
  pub whole : size shape ≤ length slot
  pub wide : most ≤ length to

-- the slot is in use with these bytes now, and as long as it was
pub record HoldsNow (shape : SlotShape) (old new bytes : List ℕ) : Type 0 where
  pub used : used_in shape new ≡ Some bytes
  pub long : length new ≡ length old

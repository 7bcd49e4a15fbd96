-- Slots whose prime value is in doubt. All of this is ours.
use Rattle.std.specs.Prelude.{◌≡◌, ℕ, ◌^◌, Bool, not, ◌&&◌, ◌||◌, false, nat_lt, List, ◌++◌, map, filter}
use Rattle.byteorder.specs.Endian.{big_bytes}
use Rattle.record_layout.specs.declared.schema.KeyPart.{KeyPart}
use Rattle.record_layout.specs.Schema.{part_of, Schema, key_at}
use Rattle.record_heap.specs.declared.shape.SlotShape.{SlotShape}
use Rattle.tree_node.specs.declared.shape.NodeShape.{NodeShape}
use Rattle.salvaged_records.specs.Leaves.{leaf_entries_in, IsPrimeShape}
use Rattle.salvaged_records.specs.Slots.{FoundSlot, used_slots_in}
use Rattle.salvaged_records.specs.Values.{comes, comes_twice}

-- the value of a part of the record in a slot
abbrev pub value_in : KeyPart → FoundSlot → List ℕ
value_in prime slot = part_of prime slot.bytes

-- the values of slots
abbrev pub prime_values : KeyPart → List FoundSlot → List (List ℕ)
prime_values prime slots = map (value_in prime) slots

-- several slots have the value of this one
abbrev pub is_doubled : KeyPart → List FoundSlot → FoundSlot → Bool
is_doubled prime slots slot = comes_twice (prime_values prime slots) (value_in prime slot)

-- the entry of the prime key that leads to a slot: its value, its page and its number
abbrev pub entry_leading_to : KeyPart → FoundSlot → List ℕ
entry_leading_to prime slot = value_in prime slot ++ (big_bytes 4 slot.page ++ big_bytes 2 slot.slot)

-- one of the entries leads to a slot (no entry has a page of more than four bytes)
abbrev pub is_led_to : KeyPart → (entries : List (List ℕ)) → FoundSlot → Bool
is_led_to prime entries slot = nat_lt slot.page (2 ^ 32) && comes entries (entry_leading_to prime slot)

-- the slots to which entries lead
abbrev pub led_to : KeyPart → (entries : List (List ℕ)) → List FoundSlot → List FoundSlot
led_to prime entries slots = filter (is_led_to prime entries) slots

-- a slot is kept: no other has its value; or an entry leads to it, and to no other that has its value
abbrev pub is_slot_kept : KeyPart → (entries : List (List ℕ)) → List FoundSlot → FoundSlot → Bool
is_slot_kept prime entries slots slot = not (is_doubled prime slots slot)
    || (is_led_to prime entries slot && not (is_doubled prime (led_to prime entries slots) slot))

-- the slots that are kept, and those that are told, since others have their value
abbrev pub kept_slots : KeyPart → (entries : List (List ℕ)) → List FoundSlot → List FoundSlot
kept_slots prime entries slots = filter (is_slot_kept prime entries slots) slots

abbrev pub told_slots : KeyPart → List FoundSlot → List FoundSlot
told_slots prime slots = filter (is_doubled prime slots) slots

-- the slots in use of pages of this schema were told apart, by the entries in all leaves: these are
-- kept, and these are told
pub record AreSortedOut (schema : Schema) (shape : SlotShape) (pages : List (List ℕ))
    (kept told : List FoundSlot) : Type 0 where
  pub nodes : NodeShape
  pub is_prime : IsPrimeShape (key_at schema 0) nodes
  pub kept_is : kept ≡ kept_slots (key_at schema 0) (leaf_entries_in nodes pages) (used_slots_in shape pages)
  pub told_is : told ≡ told_slots (key_at schema 0) (used_slots_in shape pages)

-- no two of the slots that are kept have one prime value
abbrev pub EachValueOnce : Type 0
EachValueOnce = (prime : KeyPart) (entries : List (List ℕ)) (slots : List FoundSlot) (slot : FoundSlot)
    → is_doubled prime (kept_slots prime entries slots) slot ≡ false

-- How slots are told apart by sets of values.
use Rattle.std.specs.Prelude.{◌≡◌, ℕ, ◌^◌, Bool, not, ◌&&◌, ◌||◌, nat_lt, List}
use Rattle.std.specs.BTreeSet.{BTreeSet}
use Rattle.record_layout.specs.declared.schema.KeyPart.{KeyPart}
use Rattle.salvaged_records.specs.declared.doubts.Doubts.{Doubts}
use Rattle.salvaged_records.specs.Doubt.{entry_leading_to, is_doubled, is_slot_kept, value_in}
use Rattle.salvaged_records.specs.Slots.{FoundSlot}
use Rattle.salvaged_records.specs.Values.{is_in_set}
use Rattle.std.specs.Global.{Vec}

-- an entry of a set leads to a slot
abbrev pub is_led_by : KeyPart → BTreeSet (Vec ℕ) → FoundSlot → Bool
is_led_by prime entries slot = nat_lt slot.page (2 ^ 32) && is_in_set entries (entry_leading_to prime slot)

-- the value of a slot is one that several have
abbrev pub is_told_by : Doubts → FoundSlot → Bool
is_told_by doubts slot = is_in_set doubts.doubled (value_in doubts.prime slot)

-- a slot is kept: its value is none of these; or an entry leads to it, and its value is none of those
-- of which entries lead to several slots
abbrev pub is_kept_by : Doubts → FoundSlot → Bool
is_kept_by doubts slot = not (is_told_by doubts slot)
    || (is_led_by doubts.prime doubts.entries slot
    && not (is_in_set doubts.led_twice (value_in doubts.prime slot)))

-- so they are told apart as these slots are by these entries
pub record TellApart (prime : KeyPart) (entries : List (List ℕ)) (slots : List FoundSlot) (doubts : Doubts)
    : Type 0 where
  pub told : (slot : FoundSlot) → is_told_by doubts slot ≡ is_doubled prime slots slot
  pub kept : (slot : FoundSlot) → is_kept_by doubts slot ≡ is_slot_kept prime entries slots slot

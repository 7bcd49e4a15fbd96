-- Slots that are picked out, and the values of which several of them have.
use Rattle.std.specs.Prelude.{◌≡◌, Bool, List, ◌++◌, filter, ℕ}
use Rattle.record_layout.specs.declared.schema.KeyPart.{KeyPart}
use Rattle.salvaged_records.specs.declared.picking.Picks.{Picks}
use Rattle.salvaged_records.specs.declared.picking.Picks.TheVariants.{Values, Led}
use Rattle.salvaged_records.specs.declared.noting.Noting.{Noting}
use Rattle.salvaged_records.specs.Doubt.{prime_values, value_in}
use Rattle.salvaged_records.specs.Slots.{FoundSlot}
use Rattle.salvaged_records.specs.Telling.{is_led_by}
use Rattle.salvaged_records.specs.Values.{HasDoubles, HasValues, is_in_set}

-- a slot is picked out: its value is one of these, or one of these entries leads to it
abbrev pub is_picked : Picks → KeyPart → FoundSlot → Bool
is_picked (Values values) prime slot = is_in_set values.now (value_in prime slot)
is_picked (Led entries) prime slot = is_led_by prime entries.now slot

-- the values of the slots that are picked out
abbrev pub picked_values : Picks → KeyPart → List FoundSlot → List (List ℕ)
picked_values picks prime slots = prime_values prime (filter (is_picked picks prime) slots)

-- where values were noted, they are so with those of the slots that are picked out of these
pub record NotesSlots (old new : Noting) (slots : List FoundSlot) : Type 0 where
  pub prime_is : new.prime ≡ old.prime
  pub picks_are : new.picks ≡ old.picks
  pub noted : (values : List (List ℕ)) → HasValues old.seen values → HasDoubles old.twice values
      → HasValues new.seen (values ++ picked_values old.picks old.prime slots)
      × HasDoubles new.twice (values ++ picked_values old.picks old.prime slots)

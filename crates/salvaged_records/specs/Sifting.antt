-- Values that may come twice.
use Rattle.std.specs.Prelude.{◌≡◌, ℕ, true, List, ◌++◌}
use Rattle.std.specs.BTreeSet.{BTreeSet}
use Rattle.std.specs.Global.{Vec}
use Rattle.salvaged_records.specs.Filter.{may_have}
use Rattle.salvaged_records.specs.Values.{comes, comes_twice, is_in_set}
use Rattle.salvaged_records.specs.Doubt.{prime_values}
use Rattle.salvaged_records.specs.Slots.{FoundSlot}
use Rattle.salvaged_records.specs.declared.sifting.Sifting.{Sifting}

-- each value that comes twice is one of the set
abbrev pub HasCandidates : BTreeSet (Vec ℕ) → List (List ℕ) → Type 0
HasCandidates set values = (value : List ℕ) → comes_twice values value ≡ true → is_in_set set value ≡ true

-- a filter has met these values, and those that come twice are candidates
pub record IsSifted (words : List ℕ) (candidates : BTreeSet (Vec ℕ)) (values : List (List ℕ)) : Type 0 where
  pub met : (value : List ℕ) → comes values value ≡ true → may_have words value ≡ true
  pub found : HasCandidates candidates values

-- where values were sifted, they are so with those of these slots
pub record SiftsSlots (old new : Sifting) (slots : List FoundSlot) : Type 0 where
  pub prime_is : new.prime ≡ old.prime
  pub sifted : (values : List (List ℕ)) → IsSifted old.filter.words.items old.candidates values
      → IsSifted new.filter.words.items new.candidates (values ++ prime_values old.prime slots)

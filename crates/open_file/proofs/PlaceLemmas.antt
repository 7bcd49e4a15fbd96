-- Where the prime index leads.
use Rattle.std.proofs.Common.{◌≡◌, ℕ, Bool, List, [], ◌∷◌, Some, None, refl, arith}
use Rattle.std.specs.Prelude.{find}
use Rattle.std.proofs.lemmas.Grind.{common_steps}
use Rattle.record_layout.specs.Schema.{Schema}
use Rattle.indexed_file.specs.File.{Row}
use Rattle.indexed_file.specs.Rank.{has_value}
use Rattle.pages.specs.Each.{Each}
use Rattle.key_index.specs.declared.entry.PrimeEntry.{PrimeEntry}
use Rattle.record_heap.specs.declared.shape.Place.{Place}
use Rattle.record_heap.specs.Chain.{Slots}
use Rattle.key_index.specs.Entries.{has_prime}
use Rattle.open_file.specs.InOrder.{prime_entries}
use Rattle.open_file.specs.Stored.{AreAt}
use Rattle.open_file.proofs.EntryLemmas.{LeadsToFirst, prime_some, prime_none}

-- the entry of a value leads to the first row that has it
abbrev pub LeadsTo : Schema → Slots → List ℕ → List Row → PrimeEntry → Type 0
LeadsTo schema slots value rows entry = LeadsToFirst schema slots (has_value schema 0 value) rows entry

pub entry_leads : (schema : Schema) (slots : Slots) (value : List ℕ) (places : List Place) (rows : List Row) (entry : PrimeEntry)
    → AreAt schema slots places rows → find (has_prime value) (prime_entries schema places rows) ≡ Some entry
    → LeadsTo schema slots value rows entry
entry_leads schema slots value = prime_some schema slots (has_prime value) (has_value schema 0 value) (λ place row. refl)

pub no_entry : (schema : Schema) (slots : Slots) (value : List ℕ) (places : List Place) (rows : List Row) → AreAt schema slots places rows
    → find (has_prime value) (prime_entries schema places rows) ≡ None → find (has_value schema 0 value) rows ≡ None
no_entry schema slots value = prime_none schema slots (has_prime value) (has_value schema 0 value) (λ place row. refl)

pub find_each : {X : Type 0} (P : X → Type 0) (test : X → Bool) (xs : List X) (x : X) → Each P xs → find test xs ≡ Some x → P x
find_each P test [] x h found = absurd (cc)
find_each P test (y ∷ xs) x h found = grind (arith, common_steps, find_each P test xs x)

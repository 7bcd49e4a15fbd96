-- What tells slots apart.
use Rattle.std.proofs.Common.{◌≡◌, ℕ, Bool, true, false, not, ◌||◌, ◌&&◌, List, refl, sym, ap, subst, ◌∙◌, arith}
use Rattle.std.specs.Prelude.{filter, nat_lt, ◌^◌}
use Rattle.std.specs.BTreeSet.{BTreeSet}
use Rattle.std.specs.Global.{Vec}
use Rattle.std.proofs.lemmas.Bool.{false≢true, le-ltb, ltb-false}
use Rattle.std.proofs.lemmas.Slice.Eq.{bytes_eq-Decides}
use Rattle.record_layout.specs.declared.schema.KeyPart.{KeyPart}
use Rattle.salvaged_records.specs.declared.doubts.Doubts.{Doubts}
use Rattle.salvaged_records.specs.Doubt.{entry_leading_to, is_doubled, is_led_to, is_slot_kept, led_to, value_in, prime_values}
use Rattle.salvaged_records.specs.Leaves.{is_entry_of}
use Rattle.salvaged_records.specs.Sifting.{HasCandidates}
use Rattle.salvaged_records.specs.Slots.{FoundSlot}
use Rattle.salvaged_records.specs.Telling.{is_kept_by, is_led_by, is_told_by, TellApart}
use Rattle.salvaged_records.specs.Values.{HasDoubles, HasValues, comes_twice, is_in_set, times}
use Rattle.salvaged_records.proofs.EntryLemmas.{times_picked, value_leading}
use Rattle.salvaged_records.proofs.OnceLemmas.{agree, all_picked, fewer}

-- the values that come twice among candidates come twice
module _ (prime : KeyPart) (set : BTreeSet (Vec ℕ)) (slots : List FoundSlot) where
  twice_among : (value : List ℕ) (b c : Bool) → HasCandidates set (prime_values prime slots) → is_in_set set value ≡ b → comes_twice (prime_values prime slots) value ≡ c
      → comes_twice (prime_values prime (filter (λ (slot : FoundSlot). is_in_set set (value_in prime slot)) slots)) value ≡ comes_twice (prime_values prime slots) value
  twice_among value true c has is twice =
      ap (λ (n : ℕ). nat_lt 1 n) (all_picked prime value (λ (slot : FoundSlot). is_in_set set (value_in prime slot))
      (λ slot same. subst (λ (v : List ℕ). is_in_set set v ≡ true) (sym ((bytes_eq-Decides (value_in prime slot) value).0 same)) is) slots)
  twice_among value false true has is twice = absurd (false≢true (sym is ∙ has value twice))
  twice_among value false false has is twice =
      let few = fewer prime value (λ (slot : FoundSlot). is_in_set set (value_in prime slot)) slots in
      let one = ltb-false 1 (times (prime_values prime slots) value) twice in
      le-ltb 1 (times (prime_values prime (filter (λ (slot : FoundSlot). is_in_set set (value_in prime slot)) slots)) value) (omega (arith, few, one)) ∙ sym twice

  pub doubled_among : (twice : BTreeSet (Vec ℕ)) → HasCandidates set (prime_values prime slots)
      → HasDoubles twice (prime_values prime (filter (λ (slot : FoundSlot). is_in_set set (value_in prime slot)) slots)) → HasDoubles twice (prime_values prime slots)
  doubled_among twice has is value = is value ∙ twice_among value (is_in_set set value) (comes_twice (prime_values prime slots) value) has refl refl

  -- where there is no candidate no value comes twice
  none_at : (value : List ℕ) (c : Bool) → HasCandidates set (prime_values prime slots) → is_in_set set value ≡ false → comes_twice (prime_values prime slots) value ≡ c
      → is_in_set set value ≡ comes_twice (prime_values prime slots) value
  none_at value true has empty twice = absurd (false≢true (sym empty ∙ has value twice))
  none_at value false has empty twice = empty ∙ sym twice

  pub none_doubled : HasCandidates set (prime_values prime slots) → ((value : List ℕ) → is_in_set set value ≡ false) → HasDoubles set (prime_values prime slots)
  none_doubled has empty value = none_at value (comes_twice (prime_values prime slots) value) has (empty value) refl

-- slots are told apart by sets of their values and of entries that have these
module _ (entries : List (List ℕ)) (slots : List FoundSlot) (doubts : Doubts) (doubled : HasDoubles doubts.doubled (prime_values doubts.prime slots))
    (has : HasValues doubts.entries (filter (is_entry_of doubts.doubled) entries)) (twice : HasDoubles doubts.led_twice (prime_values doubts.prime (filter (is_led_by doubts.prime doubts.entries) slots))) where
  told : (slot : FoundSlot) → is_told_by doubts slot ≡ is_doubled doubts.prime slots slot
  told slot = doubled (value_in doubts.prime slot)

  -- the entries that lead to a slot whose value several have are all there
  led : (slot : FoundSlot) → is_told_by doubts slot ≡ true → is_led_by doubts.prime doubts.entries slot ≡ is_led_to doubts.prime entries slot
  led slot is =
      let entry = entry_leading_to doubts.prime slot in
      let wanted : is_entry_of doubts.doubled entry ≡ true = ap (is_in_set doubts.doubled) (value_leading doubts.prime slot) ∙ is in
      ap (λ (b : Bool). nat_lt slot.page (2 ^ 32) && b) (has entry ∙ ap (λ (n : ℕ). nat_lt 0 n) (times_picked (is_entry_of doubts.doubled) entry wanted entries))

  led_twice : (slot : FoundSlot) → is_told_by doubts slot ≡ true → is_in_set doubts.led_twice (value_in doubts.prime slot) ≡ is_doubled doubts.prime (led_to doubts.prime entries slots) slot
  led_twice slot is =
      twice (value_in doubts.prime slot)
      ∙ ap (λ (n : ℕ). nat_lt 1 n) (agree doubts.prime (value_in doubts.prime slot) (is_led_by doubts.prime doubts.entries) (is_led_to doubts.prime entries)
      (λ other same. led other (subst (λ (v : List ℕ). is_in_set doubts.doubled v ≡ true) (sym ((bytes_eq-Decides (value_in doubts.prime other) (value_in doubts.prime slot)).0 same)) is)) slots)

  kept_at : (slot : FoundSlot) (b : Bool) → is_told_by doubts slot ≡ b → is_kept_by doubts slot ≡ is_slot_kept doubts.prime entries slots slot
  kept_at slot false is =
      ap (λ (t : Bool). not t || (is_led_by doubts.prime doubts.entries slot && not (is_in_set doubts.led_twice (value_in doubts.prime slot)))) is
      ∙ sym (ap (λ (t : Bool). not t || (is_led_to doubts.prime entries slot && not (is_doubled doubts.prime (led_to doubts.prime entries slots) slot))) (sym (told slot) ∙ is))
  kept_at slot true is =
      ap (λ (t : Bool). not t || (is_led_by doubts.prime doubts.entries slot && not (is_in_set doubts.led_twice (value_in doubts.prime slot)))) (told slot)
      ∙ ap (λ (l : Bool). not (is_doubled doubts.prime slots slot) || (l && not (is_in_set doubts.led_twice (value_in doubts.prime slot)))) (led slot is)
      ∙ ap (λ (t : Bool). not (is_doubled doubts.prime slots slot) || (is_led_to doubts.prime entries slot && not t)) (led_twice slot is)

  pub told_apart : TellApart doubts.prime entries slots doubts
  told_apart = record { told = told; kept = λ slot. kept_at slot (is_told_by doubts slot) refl }

-- where no value comes twice each slot is kept
kept_alike : (a b x y : Bool) → a ≡ false → b ≡ false → (not a || x) ≡ (not b || y)
kept_alike a b x y first none = ap (λ (t : Bool). not t || x) first ∙ sym (ap (λ (t : Bool). not t || y) none)

pub all_kept : (entries : List (List ℕ)) (slots : List FoundSlot) (doubts : Doubts) → HasDoubles doubts.doubled (prime_values doubts.prime slots)
    → ((value : List ℕ) → is_in_set doubts.doubled value ≡ false) → TellApart doubts.prime entries slots doubts
all_kept entries slots doubts doubled none = record {
  told = λ slot. doubled (value_in doubts.prime slot);
  kept = λ slot.
      kept_alike (is_told_by doubts slot) (is_doubled doubts.prime slots slot) (is_led_by doubts.prime doubts.entries slot && not (is_in_set doubts.led_twice (value_in doubts.prime slot)))
      (is_led_to doubts.prime entries slot && not (is_doubled doubts.prime (led_to doubts.prime entries slots) slot)) (none (value_in doubts.prime slot))
      (sym (doubled (value_in doubts.prime slot)) ∙ none (value_in doubts.prime slot));
}

-- No prime value is kept twice.
use Rattle.std.proofs.Common.{◌≡◌, ℕ, ◌+◌, ◌≤◌, Bool, true, false, cond, not, ◌||◌, ◌&&◌, List, [], ◌∷◌, refl, sym, ap, subst, ◌∙◌, arith}
use Rattle.std.specs.Prelude.{filter}
use Rattle.std.specs.Str.{bytes_eq}
use Rattle.std.proofs.lemmas.Bool.{false≢true, le-ltb, ltb-false}
use Rattle.std.proofs.lemmas.List.Sums.{sum_by-cons}
use Rattle.std.proofs.lemmas.Slice.Eq.{bytes_eq-Decides}
use Rattle.record_layout.specs.declared.schema.KeyPart.{KeyPart}
use Rattle.salvaged_records.specs.Doubt.{EachValueOnce, is_doubled, is_slot_kept, is_led_to, kept_slots, led_to, value_in, prime_values}
use Rattle.salvaged_records.specs.Slots.{FoundSlot}
use Rattle.salvaged_records.specs.Values.{comes_twice, times}

module _ (prime : KeyPart) (value : List ℕ) where
  -- how many slots have the value
  many : List FoundSlot → ℕ
  many slots = times (prime_values prime slots) value

  has : FoundSlot → Bool
  has slot = bytes_eq (value_in prime slot) value

  one_more : (slot : FoundSlot) (slots : List FoundSlot) → times (prime_values prime (slot ∷ slots)) value ≡ cond (bytes_eq (value_in prime slot) value) 1 0 + times (prime_values prime slots) value
  one_more slot slots = sum_by-cons (λ (v : List ℕ). cond (bytes_eq v value) 1 0) (value_in prime slot) (prime_values prime slots)

  picked_more : (p : FoundSlot → Bool) (slot : FoundSlot) (slots : List FoundSlot) (b : Bool) → p slot ≡ b
      → times (prime_values prime (filter p (slot ∷ slots))) value
      ≡ cond b (cond (bytes_eq (value_in prime slot) value) 1 0 + times (prime_values prime (filter p slots)) value) (times (prime_values prime (filter p slots)) value)
  picked_more p slot slots true is =
      ap (λ (c : Bool). times (prime_values prime (cond c (slot ∷ filter p slots) (filter p slots))) value) is ∙ one_more slot (filter p slots)
  picked_more p slot slots false is = ap (λ (c : Bool). times (prime_values prime (cond c (slot ∷ filter p slots) (filter p slots))) value) is

  -- no more are picked than there are
  fewer_step : (b : Bool) (m n p all picked : ℕ) → picked ≡ cond b (m + p) p → all ≡ m + n → p ≤ n → picked ≤ all
  fewer_step true m n p all picked is total less = omega (arith, is, total, less)
  fewer_step false m n p all picked is total less = omega (arith, is, total, less)

  pub fewer : (p : FoundSlot → Bool) (slots : List FoundSlot) → times (prime_values prime (filter p slots)) value ≤ times (prime_values prime slots) value
  fewer p [] = omega arith
  fewer p (slot ∷ slots) =
      fewer_step (p slot) (cond (bytes_eq (value_in prime slot) value) 1 0) (times (prime_values prime slots) value) (times (prime_values prime (filter p slots)) value)
      (times (prime_values prime (slot ∷ slots)) value) (times (prime_values prime (filter p (slot ∷ slots))) value)
      (picked_more p slot slots (p slot) refl) (one_more slot slots) (fewer p slots)

  -- no more of one kind than of another, where those with the value are of that other kind too
  within_step : (b c sure : Bool) (p q picked others : ℕ) → picked ≡ cond b (cond sure 1 0 + p) p → others ≡ cond c (cond sure 1 0 + q) q → (sure ≡ true → b ≡ true → c ≡ true) → p ≤ q → picked ≤ others
  within_step true true sure p q picked others is are so less = omega (arith, is, are, less)
  within_step true false true p q picked others is are so less = absurd (false≢true (so refl refl))
  within_step true false false p q picked others is are so less = omega (arith, is, are, less)
  within_step false true sure p q picked others is are so less = omega (arith, is, are, less)
  within_step false false sure p q picked others is are so less = omega (arith, is, are, less)

  pub within : (p q : FoundSlot → Bool) → ((slot : FoundSlot) → bytes_eq (value_in prime slot) value ≡ true → p slot ≡ true → q slot ≡ true) → (slots : List FoundSlot)
      → times (prime_values prime (filter p slots)) value ≤ times (prime_values prime (filter q slots)) value
  within p q so [] = omega arith
  within p q so (slot ∷ slots) =
      within_step (p slot) (q slot) (bytes_eq (value_in prime slot) value) (times (prime_values prime (filter p slots)) value) (times (prime_values prime (filter q slots)) value)
      (times (prime_values prime (filter p (slot ∷ slots))) value) (times (prime_values prime (filter q (slot ∷ slots))) value)
      (picked_more p slot slots (p slot) refl) (picked_more q slot slots (q slot) refl) (so slot) (within p q so slots)

  -- as many of one kind as of another, where those with the value are of both or of neither
  both_step : (few many : ℕ) → few ≤ many → many ≤ few → few ≡ many
  both_step few many less more = omega (arith, less, more)

  pub agree : (p q : FoundSlot → Bool) → ((slot : FoundSlot) → bytes_eq (value_in prime slot) value ≡ true → p slot ≡ q slot) → (slots : List FoundSlot)
      → times (prime_values prime (filter p slots)) value ≡ times (prime_values prime (filter q slots)) value
  agree p q so slots =
      both_step (times (prime_values prime (filter p slots)) value) (times (prime_values prime (filter q slots)) value)
      (within p q (λ slot same is. sym (so slot same) ∙ is) slots) (within q p (λ slot same is. so slot same ∙ is) slots)

  -- as many as there are, where those with the value are picked
  all_step : (b sure : Bool) (n p all picked : ℕ) → picked ≡ cond b (cond sure 1 0 + p) p → all ≡ cond sure 1 0 + n → (sure ≡ true → b ≡ true) → p ≡ n → picked ≡ all
  all_step true sure n p all picked is total so same = omega (arith, is, total, same)
  all_step false true n p all picked is total so same = absurd (false≢true (so refl))
  all_step false false n p all picked is total so same = omega (arith, is, total, same)

  pub all_picked : (p : FoundSlot → Bool) → ((slot : FoundSlot) → bytes_eq (value_in prime slot) value ≡ true → p slot ≡ true) → (slots : List FoundSlot)
      → times (prime_values prime (filter p slots)) value ≡ times (prime_values prime slots) value
  all_picked p so [] = refl
  all_picked p so (slot ∷ slots) =
      all_step (p slot) (bytes_eq (value_in prime slot) value) (times (prime_values prime slots) value) (times (prime_values prime (filter p slots)) value)
      (times (prime_values prime (slot ∷ slots)) value) (times (prime_values prime (filter p (slot ∷ slots))) value)
      (picked_more p slot slots (p slot) refl) (one_more slot slots) (so slot) (all_picked p so slots)

  -- none, where none with the value is picked
  none_step : (b sure : Bool) (p picked : ℕ) → picked ≡ cond b (cond sure 1 0 + p) p → (sure ≡ true → b ≡ false) → p ≡ 0 → picked ≡ 0
  none_step true true p picked is so none = absurd (false≢true (sym (so refl)))
  none_step true false p picked is so none = omega (arith, is, none)
  none_step false sure p picked is so none = is ∙ none

  none : (p : FoundSlot → Bool) → ((slot : FoundSlot) → bytes_eq (value_in prime slot) value ≡ true → p slot ≡ false) → (slots : List FoundSlot)
      → times (prime_values prime (filter p slots)) value ≡ 0
  none p so [] = refl
  none p so (slot ∷ slots) =
      none_step (p slot) (bytes_eq (value_in prime slot) value) (times (prime_values prime (filter p slots)) value) (times (prime_values prime (filter p (slot ∷ slots))) value)
      (picked_more p slot slots (p slot) refl) (so slot) (none p so slots)

-- whether a slot is kept, by what is known of its value
led_where_kept : (doubled led twice : Bool) → doubled ≡ true → (not doubled || (led && not twice)) ≡ true → led ≡ true
led_where_kept doubled true twice sure kept = refl
led_where_kept doubled false twice sure kept = absurd (false≢true (sym (ap (λ (b : Bool). not b || false) sure) ∙ kept))

not_kept : (doubled led twice : Bool) → doubled ≡ true → twice ≡ true → (not doubled || (led && not twice)) ≡ false
not_kept doubled true twice sure more = ap (λ (b : Bool). not b || (true && not twice)) sure ∙ ap not more
not_kept doubled false twice sure more = ap (λ (b : Bool). not b || false) sure

once : (prime : KeyPart) (entries : List (List ℕ)) (slots : List FoundSlot) (value : List ℕ) (doubled twice : Bool) → comes_twice (prime_values prime slots) value ≡ doubled
    → comes_twice (prime_values prime (led_to prime entries slots)) value ≡ twice → comes_twice (prime_values prime (kept_slots prime entries slots)) value ≡ false
once prime entries slots value false twice is more =
    let few = fewer prime value (is_slot_kept prime entries slots) slots in
    let one = ltb-false 1 (times (prime_values prime slots) value) is in
    le-ltb 1 (times (prime_values prime (kept_slots prime entries slots)) value) (omega (arith, few, one))
once prime entries slots value true false is more =
    let led = within prime value (is_slot_kept prime entries slots) (is_led_to prime entries)
    (λ slot same kept. led_where_kept (is_doubled prime slots slot) (is_led_to prime entries slot) (is_doubled prime (led_to prime entries slots) slot)
    (subst (λ (v : List ℕ). comes_twice (prime_values prime slots) v ≡ true) (sym ((bytes_eq-Decides (value_in prime slot) value).0 same)) is) kept) slots in
    let one = ltb-false 1 (times (prime_values prime (led_to prime entries slots)) value) more in
    le-ltb 1 (times (prime_values prime (kept_slots prime entries slots)) value) (omega (arith, led, one))
once prime entries slots value true true is more =
    let zero = none prime value (is_slot_kept prime entries slots)
    (λ slot same.
    let back = sym ((bytes_eq-Decides (value_in prime slot) value).0 same) in
    not_kept (is_doubled prime slots slot) (is_led_to prime entries slot) (is_doubled prime (led_to prime entries slots) slot)
    (subst (λ (v : List ℕ). comes_twice (prime_values prime slots) v ≡ true) back is)
    (subst (λ (v : List ℕ). comes_twice (prime_values prime (led_to prime entries slots)) v ≡ true) back more)) slots in
    le-ltb 1 (times (prime_values prime (kept_slots prime entries slots)) value) (omega (arith, zero))

pub each_once : EachValueOnce
each_once prime entries slots slot =
    once prime entries slots (value_in prime slot) (comes_twice (prime_values prime slots) (value_in prime slot)) (comes_twice (prime_values prime (led_to prime entries slots)) (value_in prime slot)) refl refl

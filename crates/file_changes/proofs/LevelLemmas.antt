-- The alternate indexes, one after another.
use Rattle.std.proofs.Common.{◌≡◌, ◌≢◌, ℕ, ◌+◌, ◌-◌, ◌==◌, ◌≤◌, ◌<◌, true, false, List, [], ◌∷◌, length, drop, refl, ap, sym, ◌∙◌, arith}
use Rattle.indexed_file.specs.Room.{need_of_add}
use Rattle.key_index.specs.declared.prime_index.PrimeIndex.{PrimeIndex}
use Rattle.key_index.specs.Standing.{prime_height, alt_height}
use Rattle.open_file.specs.Stands.{heights_in}
use Rattle.std.specs.Prelude.{map, slice_index_or, nat_lt, sum_by, if◌then◌else◌}
use Rattle.std.proofs.lemmas.Grind.{common_steps}
use Rattle.std.proofs.lemmas.List.Sums.{sum_by-cons}
use Rattle.record_layout.specs.Schema.{Schema}
use Rattle.key_index.specs.declared.alt_index.AltIndex.{AltIndex}
use Rattle.key_index.specs.declared.entry.AltEntry.{AltEntry}
use Rattle.key_index.specs.Entries.{with_alt}
use Rattle.open_file.specs.Parts.{but_at}
use Rattle.file_changes.specs.Adding.{index_levels, entry_of_record, added_below}
use Rattle.open_file.proofs.OrderLemmas.{either}
use Rattle.open_file.proofs.LookLemmas.{dropped, all_dropped}
use Rattle.open_file.proofs.PartsLemmas.{from_eq, from_ne}

pub levels_dropped : (indexes : List AltIndex) (j : ℕ) (index : AltIndex) → j < length indexes → index ≡ slice_index_or indexes j index → index_levels (drop j indexes) ≡ (alt_height index + 1) + index_levels (drop (j + 1) indexes)
levels_dropped indexes j index within is =
    ap index_levels (dropped indexes index j within)
    ∙ sum_by-cons (λ (i : AltIndex). alt_height i + 1) (slice_index_or indexes j index) (drop (j + 1) indexes)
    ∙ ap (λ (i : AltIndex). (alt_height i + 1) + index_levels (drop (j + 1) indexes)) (sym is)

not_lt_self : (j : ℕ) → nat_lt j j ≡ false
not_lt_self j = grind (arith, common_steps)

lt_next : (i j : ℕ) → i ≡ j → nat_lt i (j + 1) ≡ true
lt_next i j e = grind (arith, common_steps)

lt_other : (i j : ℕ) → i ≢ j → nat_lt i (j + 1) ≡ nat_lt i j
lt_other i j ne = grind (arith, common_steps)

-- the entries of the indexes below n are changed, and the others are not yet
module _ (change : ℕ → List AltEntry → List AltEntry) (entries : ℕ → List AltEntry) where
  abbrev pub below : ℕ → ℕ → List AltEntry
  below n i = if nat_lt i n then change i (entries i) else entries i

  pub none_below : (i : ℕ) → below 0 i ≡ entries i
  none_below i = let none : nat_lt i 0 ≡ false = grind (arith, common_steps) in rw none refl

  pub same_below : (j : ℕ) → below j j ≡ entries j
  same_below j = rw (not_lt_self j) refl

  -- one more is changed
  pub one_below : (j i : ℕ) → below (j + 1) i ≡ but_at j (change j (below j j)) (below j) i
  one_below j i =
      either (i == j) (below (j + 1) i ≡ but_at j (change j (below j j)) (below j) i)
      (λ yes. let e = from_eq i j yes in rw (yes, lt_next i j e, not_lt_self j) (ap (λ m. change m (entries m)) e))
      (λ no. let ne = from_ne i j no in rw (no, lt_other i j ne) refl)

-- of a new record
pub below_start : (schema : Schema) (stamp : ℕ) (bytes : List ℕ) (entries : ℕ → List AltEntry) (i : ℕ) → added_below schema stamp bytes 0 entries i ≡ entries i
below_start schema stamp bytes entries i = none_below (λ m. with_alt (entry_of_record schema stamp bytes m)) entries i

pub below_here : (schema : Schema) (stamp : ℕ) (bytes : List ℕ) (j : ℕ) (entries : ℕ → List AltEntry) → added_below schema stamp bytes j entries j ≡ entries j
below_here schema stamp bytes j entries = same_below (λ m. with_alt (entry_of_record schema stamp bytes m)) entries j

pub below_step : (schema : Schema) (stamp : ℕ) (bytes : List ℕ) (j : ℕ) (entries : ℕ → List AltEntry) (i : ℕ) →
    added_below schema stamp bytes (j + 1) entries i ≡ but_at j (with_alt (entry_of_record schema stamp bytes j) (added_below schema stamp bytes j entries j)) (added_below schema stamp bytes j entries) i
below_step schema stamp bytes j entries i = one_below (λ m. with_alt (entry_of_record schema stamp bytes m)) entries j i

levels_mapped : (indexes : List AltIndex) → sum_by (λ height. height + 1) (map alt_height indexes) ≡ index_levels indexes
levels_mapped [] = refl
levels_mapped (x ∷ xs) =
    sum_by-cons (λ height. height + 1) (alt_height x) (map alt_height xs) ∙ ap (λ n. (alt_height x + 1) + n) (levels_mapped xs) ∙ sym (sum_by-cons (λ (i : AltIndex). alt_height i + 1) x xs)

-- what a new record needs
pub need_in : (prime : PrimeIndex) (indexes : List AltIndex) → need_of_add (heights_in prime indexes) ≡ 1 + ((prime_height prime + 1) + index_levels indexes)
need_in prime indexes = ap (λ n. 1 + n) (sum_by-cons (λ height. height + 1) (prime_height prime) (map alt_height indexes) ∙ ap (λ n. (prime_height prime + 1) + n) (levels_mapped indexes))

heights_mapped : (indexes : List AltIndex) → sum_by (λ height. height) (map alt_height indexes) ≤ index_levels indexes
heights_mapped [] = omega arith
heights_mapped (x ∷ xs) =
    omega (arith, sum_by-cons (λ height. height) (alt_height x) (map alt_height xs), heights_mapped xs, sum_by-cons (λ (i : AltIndex). alt_height i + 1) x xs)

-- the heights together are fewer
pub heights_few : (prime : PrimeIndex) (indexes : List AltIndex) → sum_by (λ height. height) (heights_in prime indexes) ≤ (prime_height prime + 1) + index_levels indexes
heights_few prime indexes = omega (arith, sum_by-cons (λ height. height) (prime_height prime) (map alt_height indexes), heights_mapped indexes)

pub levels_of_all : (prime : PrimeIndex) (indexes : List AltIndex) → sum_by (λ height. height + 1) (heights_in prime indexes) ≡ (prime_height prime + 1) + index_levels indexes
levels_of_all prime indexes = sum_by-cons (λ height. height + 1) (prime_height prime) (map alt_height indexes) ∙ ap (λ n. (prime_height prime + 1) + n) (levels_mapped indexes)

pub levels_past : (indexes : List AltIndex) (j : ℕ) → length indexes ≤ j → index_levels (drop j indexes) ≡ 0
levels_past indexes j past = ap index_levels (all_dropped indexes j past)

-- the index of alternate key j + 1 stands at place j
pub index_is : (indexes : List AltIndex) (j : ℕ) (index : AltIndex) → index ≡ slice_index_or indexes (j + 1 - 1) index
    → index ≡ slice_index_or indexes j index
index_is indexes j index is = let same : j + 1 - 1 ≡ j = omega arith in rw same at is

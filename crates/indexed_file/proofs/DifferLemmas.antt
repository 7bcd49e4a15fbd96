-- Rows that are apart differ in each key.
use Rattle.std.proofs.Common.{◌≡◌, ◌≢◌, ◌<◌, ◌⊎◌, inl, inr, ℕ, zero, suc, ◌==◌, Bool, true, false, refl, not, ◌&&◌, ◌||◌, List, [], ◌∷◌, length, arith}
use Rattle.std.specs.Prelude.{bytes_eq, slice_index, slice_index_or, zip}
use Rattle.std.specs.List.{list_all}
use Rattle.std.proofs.lemmas.Bool.{and_parts, and_from, or_left, or_right, not_from_false, ne_eqb}
use Rattle.std.proofs.lemmas.Grind.{common_steps}
use Rattle.std.proofs.lemmas.Slice.Eq.{bytes_eq-Decides}
use Rattle.record_layout.specs.declared.schema.KeyPart.{KeyPart}
use Rattle.record_layout.specs.Schema.{key_at, value_of, has_duplicates, no_key}
use Rattle.indexed_file.specs.File.{stamp_of}
use Rattle.indexed_file.specs.Laws.{apart_in_each_key}
use Rattle.indexed_file.proofs.TestLemmas.{either}
use Rattle.indexed_file.proofs.RankLemmas.{differ}
use Rattle.indexed_file.proofs.ApartLemmas.{are_apart_in}

-- ---- three lists side by side

-- what is so of the k-th of each
pub zipped : (test : KeyPart × (ℕ × ℕ) → Bool) (keys : List KeyPart) (ss ts : List ℕ) (k : ℕ) (d : KeyPart) → list_all test (zip keys (zip ss ts)) ≡ true → k < length keys
    → k < length ss → k < length ts → test (slice_index_or keys k d, (slice_index ss k, slice_index ts k)) ≡ true
zipped test [] ss ts k d all lt la lb = absurd (omega (arith, lt))
zipped test (x ∷ keys) [] bs k d all lt la lb = absurd (omega (arith, la))
zipped test (x ∷ keys) (a ∷ ss) [] k d all lt la lb = absurd (omega (arith, lb))
zipped test (x ∷ keys) (a ∷ ss) (b ∷ ts) zero d all lt la lb = (and_parts _ _ all).0
zipped test (x ∷ keys) (a ∷ ss) (b ∷ ts) (suc k) d all lt la lb = zipped test keys ss ts k d (and_parts _ _ all).1 (omega (arith, lt)) (omega (arith, la)) (omega (arith, lb))

-- what is so of each k-th is so of all
all_zipped : (test : KeyPart × (ℕ × ℕ) → Bool) (keys : List KeyPart) (ss ts : List ℕ) (d : KeyPart) → length ss ≡ length keys → length ts ≡ length keys
    → ((k : ℕ) → k < length keys → test (slice_index_or keys k d, (slice_index ss k, slice_index ts k)) ≡ true) → list_all test (zip keys (zip ss ts)) ≡ true
all_zipped test [] ss ts d la lb each = refl
all_zipped test (x ∷ keys) [] ts d la lb each = absurd (omega (arith, la))
all_zipped test (x ∷ keys) (a ∷ ss) [] d la lb each = absurd (omega (arith, lb))
all_zipped test (x ∷ keys) (a ∷ ss) (b ∷ ts) d la lb each =
    and_from _ _ (each zero (omega arith)) (all_zipped test keys ss ts d (omega (arith, la)) (omega (arith, lb)) (λ k lt. each (suc k) (omega (arith, lt))))

-- ---- one key

same_number : (s t : ℕ) → s ≡ t → (s == t) ≡ true
same_number s t same = grind (arith, common_steps)

differ_from : (v w : List ℕ) (duplicates : Bool) (s t : ℕ) → (not (bytes_eq v w) || (duplicates && not (s == t))) ≡ true → (v ≢ w) ⊎ ((duplicates ≡ true) × (s ≢ t))
differ_from v w duplicates s t apart =
    either (bytes_eq v w) ((v ≢ w) ⊎ ((duplicates ≡ true) × (s ≢ t)))
    (λ yes. let rest : (duplicates && not (s == t)) ≡ true = rw yes at apart in
    let parts = and_parts duplicates (not (s == t)) rest in
    inr (parts.0, λ same. let no : not true ≡ true = rw (same_number s t same) at parts.1 in absurd (cc)))
    (λ no. inl (λ same. differ ((bytes_eq-Decides v w).1 same) no))

differ_to : (v w : List ℕ) (duplicates : Bool) (s t : ℕ) → (v ≢ w) ⊎ ((duplicates ≡ true) × (s ≢ t)) → (not (bytes_eq v w) || (duplicates && not (s == t))) ≡ true
differ_to v w duplicates s t (inl apart) =
    or_left _ _ (not_from_false _ (either (bytes_eq v w) (bytes_eq v w ≡ false) (λ yes. absurd (apart ((bytes_eq-Decides v w).0 yes))) (λ no. no)))
differ_to v w duplicates s t (inr both) = or_right _ _ (and_from _ _ both.0 (not_from_false _ (ne_eqb s t both.1)))

-- ---- all keys

-- where there is no such key
abbrev none : KeyPart
none = no_key

pub differ_in_each : apart_in_each_key
differ_in_each schema a b many more = (
  λ apart k lt. differ_from (value_of schema k a.bytes) (value_of schema k b.bytes) (has_duplicates (key_at schema k)) (stamp_of k a) (stamp_of k b)
      (zipped (are_apart_in a.bytes b.bytes) schema.keys (0 ∷ a.stamps) (0 ∷ b.stamps) k none apart lt (omega (arith, lt, many)) (omega (arith, lt, more))),
  λ each. all_zipped (are_apart_in a.bytes b.bytes) schema.keys (0 ∷ a.stamps) (0 ∷ b.stamps) none (omega (arith, many)) (omega (arith, more))
      (λ k lt. differ_to (value_of schema k a.bytes) (value_of schema k b.bytes) (has_duplicates (key_at schema k)) (stamp_of k a) (stamp_of k b) (each k lt)),
)

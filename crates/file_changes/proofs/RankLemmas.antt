-- A new row has a rank of its own in each key.
use Rattle.std.proofs.Common.{◌≡◌, ℕ, zero, suc, ◌+◌, ◌==◌, ◌≤◌, ◌<◌, Bool, true, false, List, [], ◌∷◌, length, ap, sym, ◌∙◌, arith}
use Rattle.std.proofs.Common.{length-drop}
use Rattle.std.specs.Prelude.{slice_index, slice_index_or, zip, not, ◌&&◌, ◌||◌, bytes_eq}
use Rattle.std.specs.List.{list_all}
use Rattle.std.specs.Ordering.{is_eq, nat_cmp, ordering_then}
use Rattle.std.specs.declared.cmp.Ordering.{Ordering}
use Rattle.std.specs.Cmp.{tied_then}
use Rattle.std.proofs.lemmas.Bool.{and_parts, not_from_false}
use Rattle.std.proofs.lemmas.List.{length-map}
use Rattle.std.proofs.lemmas.Grind.{common_steps}
use Rattle.std.proofs.lemmas.Bool.Decides.{nat_tests}
use Rattle.std.proofs.lemmas.Map.Text.{is_eq-slice_cmp}
use Rattle.record_layout.specs.declared.schema.KeyPart.{KeyPart}
use Rattle.record_layout.specs.Schema.{Schema, IsSchema, key_at, part_of, value_of, has_duplicates, no_key}
use Rattle.indexed_file.specs.File.{Row, File, stamp_of}
use Rattle.io_state.specs.Rank.{value_cmp}
use Rattle.indexed_file.specs.Rank.{row_cmp}
use Rattle.indexed_file.specs.Change.{clashes, new_row}
use Rattle.indexed_file.specs.Sound.{is_row, are_apart, is_file}
use Rattle.indexed_file.proofs.TestLemmas.{all_from_both}
use Rattle.indexed_file.proofs.RowLemmas.{row_parts, each_row}
use Rattle.indexed_file.proofs.ApartLemmas.{are_unlike, apart_from_new, unlike_from_no_clash}
use Rattle.pages.specs.Each.{Each}
use Rattle.file_changes.specs.Adding.{stamp_in}
use Rattle.open_file.proofs.PartsLemmas.{from_eq, each_map}
use Rattle.file_changes.proofs.ChangedLemmas.{stamp_of_new}
use Rattle.file_changes.proofs.WithoutLemmas.{stamp_in_key}

zipped : (test : KeyPart × (ℕ × ℕ) → Bool) (keys : List KeyPart) (ss ts : List ℕ) (k : ℕ) (d : KeyPart) → list_all test (zip keys (zip ss ts)) ≡ true → k < length keys → k < length ss → k < length ts
    → test (slice_index_or keys k d, (slice_index ss k, slice_index ts k)) ≡ true
zipped test [] ss ts k d all lt la lb = absurd (omega (arith, lt))
zipped test (x ∷ keys) [] bs k d all lt la lb = absurd (omega (arith, la))
zipped test (x ∷ keys) (a ∷ ss) [] k d all lt la lb = absurd (omega (arith, lb))
zipped test (x ∷ keys) (a ∷ ss) (b ∷ ts) zero d all lt la lb = (and_parts _ _ all).0
zipped test (x ∷ keys) (a ∷ ss) (b ∷ ts) (suc k) d all lt la lb = zipped test keys ss ts k d (and_parts _ _ all).1 (omega (arith, lt)) (omega (arith, la)) (omega (arith, lb))

one_differs : (x d y : Bool) → (not x || (d && not y)) ≡ true → (x && y) ≡ false
one_differs x d y h = grind (arith, common_steps)

-- the two rows differ in value or stamp of key k
abbrev pub same_rank : Schema → ℕ → Row → Row → Bool
same_rank schema k a b = bytes_eq (value_of schema k a.bytes) (value_of schema k b.bytes) && (stamp_of k a == stamp_of k b)

pub apart_in : (schema : Schema) (k : ℕ) (a b : Row) → k < length schema.keys → length a.stamps + 1 ≡ length schema.keys → length b.stamps + 1 ≡ length schema.keys → are_apart schema a b ≡ true → same_rank schema k a b ≡ false
apart_in schema k a b lt many more apart =
    let d : KeyPart = no_key in
    one_differs _ (has_duplicates (key_at schema k)) _ (zipped (λ p. not (bytes_eq (part_of p.0 a.bytes) (part_of p.0 b.bytes)) || (has_duplicates p.0 && not (p.1.0 == p.1.1))) schema.keys (0 ∷ a.stamps) (0 ∷ b.stamps) k d apart lt (omega (arith, lt, many)) (omega (arith, lt, more)))

pub new_stamps_many : (schema : Schema) (stamp : ℕ) (bytes : List ℕ) → 1 ≤ length schema.keys → length (new_row schema stamp bytes).stamps + 1 ≡ length schema.keys
new_stamps_many schema stamp bytes some = simp (length-map, length-drop) (omega (arith, some))

pub each_all : {X : Type 0} (p : X → Bool) (xs : List X) → list_all p xs ≡ true → Each (λ x. p x ≡ true) xs
each_all p [] h = tt
each_all p (x ∷ xs) h = let parts = and_parts _ _ h in (parts.0, each_all p xs parts.1)

-- where a record does not clash, each row differs from it in rank by each key
pub new_rank : (schema : Schema) (file : File) (bytes : List ℕ) (k : ℕ) → IsSchema schema → is_file schema file ≡ true → clashes schema bytes file.rows ≡ false → k < length schema.keys
    → Each (λ row. same_rank schema k row (new_row schema file.next_stamp bytes) ≡ false) file.rows
new_rank schema file bytes k is sound clash lt =
    let some : 1 ≤ length schema.keys = omega (arith, lt) in
    let rows = (and_parts _ _ sound).1 in
    let test : Row → Bool = λ row. same_rank schema k row (new_row schema file.next_stamp bytes) in
    let all = all_from_both (is_row schema file.next_stamp) (λ row. are_unlike schema row.bytes bytes) (λ row. not (test row))
    (λ row fit unlike.
    let parts = row_parts schema file.next_stamp row fit in
    not_from_false _ (apart_in schema k row (new_row schema file.next_stamp bytes) lt (from_eq _ _ parts.1) (new_stamps_many schema file.next_stamp bytes some)
    (apart_from_new schema file.next_stamp bytes row is.keys unlike parts.2)))
    file.rows (each_row schema file.next_stamp file.rows rows) (unlike_from_no_clash schema bytes file.rows clash) in
    each_map (λ row. not (test row) ≡ true) (λ row. test row ≡ false) (λ row fails. negated (test row) fails) file.rows
    (each_all (λ row. not (test row)) file.rows all)
  where
    negated : (b : Bool) → not b ≡ true → b ≡ false
    negated b h = grind (arith, common_steps)

eq_numbers : (a s : ℕ) → is_eq (nat_cmp a s) ≡ (a == s)
eq_numbers a s = grind (arith, common_steps, nat_tests)

eq_then : (o p : Ordering) → is_eq (ordering_then o p) ≡ (is_eq o && is_eq p)
eq_then o p = sym (tied_then o p)

-- so they are not tied
pub not_tied : (schema : Schema) (k : ℕ) (a b : Row) → same_rank schema k a b ≡ false → is_eq (row_cmp schema k a b) ≡ false
not_tied schema k a b differ =
    let v = value_of schema k a.bytes in
    let w = value_of schema k b.bytes in
    eq_then (value_cmp v w) (nat_cmp (stamp_of k a) (stamp_of k b)) ∙ ap (λ x. x && is_eq (nat_cmp (stamp_of k a) (stamp_of k b))) (is_eq-slice_cmp v w)
    ∙ ap (λ x. bytes_eq v w && x) (eq_numbers (stamp_of k a) (stamp_of k b)) ∙ differ

-- the stamp of a new row in an alternate key
pub new_stamp : (schema : Schema) (stamp : ℕ) (bytes : List ℕ) (j : ℕ) → j + 1 < length schema.keys → stamp_of (j + 1) (new_row schema stamp bytes) ≡ stamp_in schema stamp j
new_stamp schema stamp bytes j lt = stamp_in_key j (new_row schema stamp bytes) ∙ stamp_of_new schema stamp j lt

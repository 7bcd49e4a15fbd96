-- Rows of a file of one rank are one row.
use Rattle.std.proofs.Common.{◌≡◌, inl, inr, ℕ, ◌+◌, ◌==◌, ◌<◌, Bool, true, false, not, List, [], ◌∷◌, length, refl, sym, ap, subst, ◌∙◌, arith}
use Rattle.std.specs.Prelude.{◌&&◌, ◌||◌, bytes_eq}
use Rattle.std.specs.List.{list_all}
use Rattle.std.specs.Ordering.{is_lt, is_gt, is_eq, nat_cmp, ordering_then}
use Rattle.std.specs.declared.cmp.Ordering.{Ordering}
use Rattle.std.specs.declared.cmp.Ordering.TheVariants.{Less, Equal, Greater}
use Rattle.std.proofs.lemmas.Bool.{and_parts}
use Rattle.std.proofs.lemmas.Bool.Decides.{nat_tests}
use Rattle.std.proofs.lemmas.Grind.{common_steps}
use Rattle.std.proofs.lemmas.Map.Text.{is_eq-slice_cmp}
use Rattle.record_layout.specs.declared.schema.KeyPart.{KeyPart}
use Rattle.record_layout.specs.Schema.{Schema, key_at, part_of, value_of, has_duplicates, no_key}
use Rattle.indexed_file.specs.File.{Row, File, stamp_of}
use Rattle.io_state.specs.Rank.{value_cmp}
use Rattle.indexed_file.specs.Rank.{row_cmp}
use Rattle.indexed_file.specs.Sound.{is_file, is_row, are_apart, are_rows}
use Rattle.indexed_file.proofs.ApartLemmas.{apart_back}
use Rattle.indexed_file.proofs.DifferLemmas.{zipped}
use Rattle.indexed_file.proofs.RowLemmas.{is_before, row_parts, rows_parts, each_row}
use Rattle.indexed_file.specs.Laws.{IsOf}
use Rattle.indexed_file.proofs.RankLemmas.{row_total, gt_back, differ}

from_eq : (a b : ℕ) → (a == b) ≡ true → a ≡ b
from_eq a b h = grind (arith, common_steps)

one_differs : (x d y : Bool) → (not x || (d && not y)) ≡ true → (x && y) ≡ false
one_differs true true true h = sym h
one_differs true true false h = refl
one_differs true false y h = absurd (cc)
one_differs false d y h = refl

abbrev same_rank : Schema → ℕ → Row → Row → Bool
same_rank schema k a b = bytes_eq (value_of schema k a.bytes) (value_of schema k b.bytes) && (stamp_of k a == stamp_of k b)

rank_differs : (schema : Schema) (k : ℕ) (a b : Row) → k < length schema.keys → length a.stamps + 1 ≡ length schema.keys → length b.stamps + 1 ≡ length schema.keys → are_apart schema a b ≡ true → same_rank schema k a b ≡ false
rank_differs schema k a b lt many more apart =
    let d : KeyPart = no_key in
    one_differs _ (has_duplicates (key_at schema k)) _ (zipped (λ p. not (bytes_eq (part_of p.0 a.bytes) (part_of p.0 b.bytes)) || (has_duplicates p.0 && not (p.1.0 == p.1.1))) schema.keys (0 ∷ a.stamps) (0 ∷ b.stamps) k d apart lt (omega (arith, lt, many)) (omega (arith, lt, more)))

eq_numbers : (a s : ℕ) → is_eq (nat_cmp a s) ≡ (a == s)
eq_numbers a s = grind (arith, common_steps, nat_tests)

eq_then : (o p : Ordering) → is_eq (ordering_then o p) ≡ (is_eq o && is_eq p)
eq_then Less p = refl
eq_then Equal p = refl
eq_then Greater p = refl

neither : (o : Ordering) → is_lt o ≡ false → is_gt o ≡ false → is_eq o ≡ true
neither Less low high = absurd (cc)
neither Equal low high = refl
neither Greater low high = absurd (cc)

-- rows neither of which is below the other have one rank
tied : (schema : Schema) (k : ℕ) (a b : Row) → is_lt (row_cmp schema k a b) ≡ false → is_lt (row_cmp schema k b a) ≡ false → same_rank schema k a b ≡ true
tied schema k a b low back =
    let v = value_of schema k a.bytes in
    let w = value_of schema k b.bytes in
    let both = neither (row_cmp schema k a b) low (gt_back (row_cmp schema k) (row_total schema k) a b ∙ back) in
    sym (eq_then (value_cmp v w) (nat_cmp (stamp_of k a) (stamp_of k b)) ∙ ap (λ x. x && is_eq (nat_cmp (stamp_of k a) (stamp_of k b))) (is_eq-slice_cmp v w)
    ∙ ap (λ x. bytes_eq v w && x) (eq_numbers (stamp_of k a) (stamp_of k b))) ∙ both

-- one of rows passes a test that they all pass
pass_of : (test : Row → Bool) (rows : List Row) (row : Row) → list_all test rows ≡ true → IsOf rows row → test row ≡ true
pass_of test [] row all is = absurd is
pass_of test (other ∷ rows) row all (inl same) = subst (λ (r : Row). test r ≡ true) (sym same) (and_parts _ _ all).0
pass_of test (other ∷ rows) row all (inr is) = pass_of test rows row (and_parts _ _ all).1 is

stamps_many : (schema : Schema) (next : ℕ) (row : Row) → is_row schema next row ≡ true → length row.stamps + 1 ≡ length schema.keys
stamps_many schema next row fit = from_eq _ _ (row_parts schema next row fit).1

module _ (schema : Schema) (next k : ℕ) (lt : k < length schema.keys) where
  -- the first of rows and one behind it differ in rank
  first_differs : (first row : Row) (rows : List Row) → are_rows schema next (first ∷ rows) ≡ true → IsOf rows row → are_apart schema first row ≡ true
  first_differs first row rows sound is = (and_parts _ _ (pass_of (is_before schema first) rows row (rows_parts schema next first rows sound).1 is)).1

  same_in : (rows : List Row) (a b : Row) → are_rows schema next rows ≡ true → IsOf rows a → IsOf rows b → same_rank schema k a b ≡ true → a ≡ b
  same_in [] a b sound is also same = absurd is
  same_in (first ∷ rows) a b sound (inl here) (inl there) same = here ∙ sym there
  same_in (first ∷ rows) a b sound (inl here) (inr also) same =
      let parts = rows_parts schema next first rows sound in
      let apart = subst (λ (r : Row). are_apart schema r b ≡ true) (sym here) (first_differs first b rows sound also) in
      let fit = subst (λ (r : Row). is_row schema next r ≡ true) (sym here) parts.0 in
      let other = pass_of (is_row schema next) rows b (each_row schema next rows parts.2) also in
      absurd (differ same (rank_differs schema k a b lt (stamps_many schema next a fit) (stamps_many schema next b other) apart))
  same_in (first ∷ rows) a b sound (inr is) (inl there) same =
      let parts = rows_parts schema next first rows sound in
      let apart = subst (λ (r : Row). are_apart schema a r ≡ true) (sym there) (apart_back schema first a (first_differs first a rows sound is)) in
      let fit = subst (λ (r : Row). is_row schema next r ≡ true) (sym there) parts.0 in
      let other = pass_of (is_row schema next) rows a (each_row schema next rows parts.2) is in
      absurd (differ same (rank_differs schema k a b lt (stamps_many schema next a other) (stamps_many schema next b fit) apart))
  same_in (first ∷ rows) a b sound (inr is) (inr also) same = same_in rows a b (rows_parts schema next first rows sound).2 is also same

-- rows of a file neither of which is below the other are one row
pub one_row : (schema : Schema) (k : ℕ) (file : File) (a b : Row) → k < length schema.keys → is_file schema file ≡ true → IsOf file.rows a → IsOf file.rows b
    → is_lt (row_cmp schema k a b) ≡ false → is_lt (row_cmp schema k b a) ≡ false → a ≡ b
one_row schema k file a b lt sound is also low back =
    same_in schema file.next_stamp k lt file.rows a b (and_parts _ _ sound).1 is also (tied schema k a b low back)

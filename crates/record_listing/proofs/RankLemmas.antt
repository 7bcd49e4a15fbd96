-- The order of rows, and what is so of each row behind one.
use Rattle.std.proofs.Common.{◌≡◌, ℕ, zero, suc, true, false, List, [], ◌∷◌, length, take, refl, sym, ◌∙◌, Option, Some, None}
use Rattle.std.specs.Ordering.{is_lt, is_gt, is_ge, nat_cmp, ordering_then}
use Rattle.std.specs.declared.cmp.Ordering.{Ordering}
use Rattle.std.specs.declared.cmp.Ordering.TheVariants.{Less, Equal, Greater}
use Rattle.std.specs.Cmp.{IsTotalOrder}
use Rattle.std.proofs.lemmas.Cmp.{nat_list_cmp_total, nat_cmp_total, on_total, then_total}
use Rattle.arrayvec.specs.ArrayVec.{ArrayVec}
use Rattle.io_state.specs.declared.position.Position.{Position}
use Rattle.io_state.specs.declared.position.Position.TheVariants.{Invalid, Missing, From, After}
use Rattle.record_layout.specs.Schema.{Schema, value_of}
use Rattle.indexed_file.specs.File.{Row, stamp_of}
use Rattle.io_state.specs.Rank.{value_cmp, rank_cmp}
use Rattle.indexed_file.specs.Rank.{row_cmp, admits}
use Rattle.indexed_file.proofs.RankLemmas.{row_total, ge_not_lt, not_lt_ge, not_below, not_back, still_above, gt_back}
use Rattle.record_listing.specs.Listed.{is_past}

-- a value and a stamp
abbrev pair_cmp : (List ℕ × ℕ) → (List ℕ × ℕ) → Ordering
pair_cmp p q = rank_cmp p.0 p.1 q.0 q.1

pair_total : IsTotalOrder pair_cmp
pair_total = then_total (on_total (λ (p : List ℕ × ℕ). p.0) nat_list_cmp_total) (on_total (λ (p : List ℕ × ℕ). p.1) nat_cmp_total)

then_lt : (o p : Ordering) → is_lt (ordering_then o p) ≡ true → is_gt o ≡ false
then_lt Less p h = refl
then_lt Equal p h = refl
then_lt Greater p h = absurd (cc)

-- the value of a row behind another is not less
pub value_up : (schema : Schema) (k : ℕ) (a b : Row) → is_lt (row_cmp schema k a b) ≡ true → is_lt (value_cmp (value_of schema k b.bytes) (value_of schema k a.bytes)) ≡ false
value_up schema k a b low =
    let v = value_of schema k a.bytes in
    let w = value_of schema k b.bytes in
    sym (gt_back value_cmp nat_list_cmp_total v w) ∙ then_lt (value_cmp v w) (nat_cmp (stamp_of k a) (stamp_of k b)) low

-- a position that admits a row admits each one behind it
pub admits_up : (schema : Schema) (k : ℕ) (position : Position) (a b : Row) → admits schema k position a ≡ true → is_lt (row_cmp schema k a b) ≡ true → admits schema k position b ≡ true
admits_up schema k Invalid a b is low = absurd (cc)
admits_up schema k Missing a b is low = absurd (cc)
admits_up schema k (From value) a b is low =
    let v = value_of schema k a.bytes in
    let w = value_of schema k b.bytes in
    ge_not_lt (value_cmp w value.items) (not_below value_cmp nat_list_cmp_total w v value.items (value_up schema k a b low) (not_lt_ge (value_cmp v value.items) is))
admits_up schema k (After value stamp) a b is low =
    still_above pair_cmp pair_total (value_of schema k a.bytes, stamp_of k a) (value_of schema k b.bytes, stamp_of k b) (value.items, stamp) is
    (not_back (row_cmp schema k) (row_total schema k) a b low)

-- ---- the bounds

by_order : (o : Ordering) (P : Type 0) → (o ≡ Less → P) → (o ≡ Equal → P) → (o ≡ Greater → P) → P
by_order Less P l e g = l refl
by_order Equal P l e g = e refl
by_order Greater P l e g = g refl

-- the first bytes of a value that is not less are not less
front_up : (m : ℕ) (w v : List ℕ) → is_lt (value_cmp w v) ≡ false → is_lt (value_cmp (take m w) (take m v)) ≡ false
front_up zero w v up = refl
front_up (suc m) [] [] up = refl
front_up (suc m) [] (y ∷ v) up = absurd (cc)
front_up (suc m) (x ∷ w) [] up = refl
front_up (suc m) (x ∷ w) (y ∷ v) up =
    by_order (nat_cmp x y) (is_lt (value_cmp (take (suc m) (x ∷ w)) (take (suc m) (y ∷ v))) ≡ false)
    (λ l. let no : is_lt (ordering_then Less (value_cmp w v)) ≡ false = rw l at up in absurd (cc))
    (λ e. let rest : is_lt (ordering_then Equal (value_cmp w v)) ≡ false = rw e at up in rw e (front_up m w v rest))
    (λ g. rw g refl)

-- each row behind one that is past the last bound is past it
pub past_up : (schema : Schema) (k : ℕ) (to : Option (ArrayVec ℕ)) (a b : Row) → is_past to (value_of schema k a.bytes) ≡ true → is_lt (row_cmp schema k b a) ≡ false → is_past to (value_of schema k b.bytes) ≡ true
past_up schema k None a b past up = absurd (cc)
past_up schema k (Some to) a b past up =
    let v = value_of schema k a.bytes in
    let w = value_of schema k b.bytes in
    still_above value_cmp nat_list_cmp_total (take (length to.items) v) (take (length to.items) w) to.items past
    (front_up (length to.items) w v (value_not_below schema k a b up))
  where
    then_not_lt : (o p : Ordering) → is_lt (ordering_then o p) ≡ false → is_lt o ≡ false
    then_not_lt Less p h = absurd (cc)
    then_not_lt Equal p h = refl
    then_not_lt Greater p h = refl

    value_not_below : (schema : Schema) (k : ℕ) (a b : Row) → is_lt (row_cmp schema k b a) ≡ false → is_lt (value_cmp (value_of schema k b.bytes) (value_of schema k a.bytes)) ≡ false
    value_not_below schema k a b up = then_not_lt (value_cmp (value_of schema k b.bytes) (value_of schema k a.bytes)) (nat_cmp (stamp_of k b) (stamp_of k a)) up

same_then : (o p q : Ordering) → is_ge p ≡ is_ge q → is_ge (ordering_then o p) ≡ is_ge (ordering_then o q)
same_then Less p q e = refl
same_then Equal p q e = e
same_then Greater p q e = refl

-- the first bytes of a value are not less than an operand of as many bytes exactly where the value is not
pub front_from : (v from : List ℕ) → is_ge (value_cmp (take (length from) v) from) ≡ is_ge (value_cmp v from)
front_from [] [] = refl
front_from (x ∷ v) [] = refl
front_from [] (y ∷ from) = refl
front_from (x ∷ v) (y ∷ from) = same_then (nat_cmp x y) (value_cmp (take (length from) v) from) (value_cmp v from) (front_from v from)

-- The row of least rank among those that pass a test.
use Rattle.std.proofs.Common.{◌≡◌, inl, inr, ℕ, Bool, true, false, List, [], ◌∷◌, filter, Option, Some, None, refl, sym, subst}
use Rattle.std.specs.Ordering.{is_lt}
use Rattle.record_layout.specs.Schema.{Schema}
use Rattle.indexed_file.specs.File.{Row, File}
use Rattle.indexed_file.specs.Rank.{row_cmp, lower_of, lowest, least}
use Rattle.indexed_file.proofs.TestLemmas.{either}
use Rattle.indexed_file.specs.Laws.{IsOf, IsLeast, IsLeastOrNone}
use Rattle.indexed_file.proofs.RankLemmas.{row_total, not_below, not_back, not_self, differ}

from_some : {X : Type 0} (x y : X) → Some x ≡ Some y → x ≡ y
from_some x y e = cc

-- a row that passes is among those that pass
in_filter : (test : Row → Bool) (rows : List Row) (row : Row) → IsOf rows row → test row ≡ true → IsOf (filter test rows) row
in_filter test [] row is pass = absurd is
in_filter test (other ∷ rows) row is pass =
    either (test other) (IsOf (filter test (other ∷ rows)) row)
    (λ yes. rw yes (elim is [ inl same ↦ inl same | inr more ↦ inr (in_filter test rows row more pass) ]))
    (λ no. rw no (elim is [ inl same ↦ absurd (differ pass (subst (λ (r : Row). test r ≡ false) (sym same) no)) | inr more ↦ in_filter test rows row more pass ]))

-- one of those that pass is one of all, and passes
of_filter : (test : Row → Bool) (rows : List Row) (row : Row) → IsOf (filter test rows) row → IsOf rows row × (test row ≡ true)
of_filter test [] row is = absurd is
of_filter test (other ∷ rows) row is =
    either (test other) (IsOf (other ∷ rows) row × (test row ≡ true))
    (λ yes. let here : IsOf (other ∷ filter test rows) row = rw yes at is in
    elim here [ inl same ↦ (inl same, subst (λ (r : Row). test r ≡ true) (sym same) yes) | inr more ↦ (let rest = of_filter test rows row more in (inr rest.0, rest.1)) ])
    (λ no. let here : IsOf (filter test rows) row = rw no at is in
    let rest = of_filter test rows row here in (inr rest.0, rest.1))

-- ---- the lowest

module _ (schema : Schema) (k : ℕ) where
  abbrev NotBelow : Row → Row → Type 0
  NotBelow row other = is_lt (row_cmp schema k other row) ≡ false

  -- none of these rows is below the row
  abbrev IsBottom : List Row → Row → Type 0
  IsBottom rows row = (other : Row) → IsOf rows other → NotBelow row other

  none_lowest : (rows : List Row) (row : Row) → IsOf rows row → lowest schema k rows ≡ None → ⊥
  none_lowest [] row is none = is
  none_lowest (other ∷ rows) row is none = cc

  -- with one more row that is not below
  one_more : (first row : Row) (rows : List Row) → NotBelow row first → IsBottom rows row → IsBottom (first ∷ rows) row
  one_more first row rows here rest other (inl same) = subst (λ (r : Row). NotBelow row r) (sym same) here
  one_more first row rows here rest other (inr is) = rest other is

  -- the lowest is one of the rows, and none is below it
  lowest_is : (rows : List Row) (row : Row) → lowest schema k rows ≡ Some row → IsOf rows row × IsBottom rows row
  lowest_is [] row is = absurd (cc)
  lowest_is (first ∷ rows) row is = by (lowest_is rows) (lowest schema k rows) refl
    where
      self : NotBelow first first
      self = not_self (row_cmp schema k) (row_total schema k) first

      by : ((other : Row) → lowest schema k rows ≡ Some other → IsOf rows other × IsBottom rows other) → (o : Option Row) → lowest schema k rows ≡ o
          → IsOf (first ∷ rows) row × IsBottom (first ∷ rows) row
      by more None e =
          let same : first ≡ row = from_some _ _ (rw e at is) in
          subst (λ (r : Row). IsOf (first ∷ rows) r × IsBottom (first ∷ rows) r) same
          (inl refl, one_more first first rows self (λ other there. absurd (none_lowest rows other there e)))
      by more (Some other) e =
          let rest = more other e in
          let lower : Some (lower_of schema k first (Some other)) ≡ Some row = rw e at is in
          either (is_lt (row_cmp schema k other first)) (IsOf (first ∷ rows) row × IsBottom (first ∷ rows) row)
          (λ yes. let same : other ≡ row = from_some _ _ (rw yes at lower) in
          subst (λ (r : Row). IsOf (first ∷ rows) r × IsBottom (first ∷ rows) r) same
          (inr rest.0, one_more first other rows (not_back (row_cmp schema k) (row_total schema k) other first yes) rest.1))
          (λ no. let same : first ≡ row = from_some _ _ (rw no at lower) in
          subst (λ (r : Row). IsOf (first ∷ rows) r × IsBottom (first ∷ rows) r) same
          (inl refl, one_more first first rows self (λ r there. not_below (row_cmp schema k) (row_total schema k) r other first (rest.1 r there) no)))

  -- the least row that passes is one of the file, passes, and no row that passes is below it
  pub least_is : (test : Row → Bool) (file : File) (row : Row) → least schema k test file ≡ Some row → IsLeast schema k test file row
  least_is test file row is =
      let all = lowest_is (filter test file.rows) row is in
      let one = of_filter test file.rows row all.0 in
      record { there = one.0; passes = one.1; least = λ other there pass. all.1 other (in_filter test file.rows other there pass) }

  -- where there is none, no row passes
  pub none_passes : (test : Row → Bool) (file : File) (row : Row) → least schema k test file ≡ None → IsOf file.rows row → test row ≡ true → ⊥
  none_passes test file row none there pass = none_lowest (filter test file.rows) row (in_filter test file.rows row there pass) none

  pub least_or_none : (test : Row → Bool) (file : File) (found : Option Row) → least schema k test file ≡ found → IsLeastOrNone schema k test file found
  least_or_none test file None e =
      λ row there. either (test row) (test row ≡ false) (λ yes. absurd (none_passes test file row e there yes)) (λ no. no)
  least_or_none test file (Some row) e = least_is test file row e

-- The order of rows is total.
use Rattle.std.proofs.Common.{◌≡◌, ℕ, Bool, true, false, refl, ap, sym, ◌∙◌}
use Rattle.std.specs.Ordering.{is_lt, is_gt, is_ge, ordering_reverse}
use Rattle.std.specs.declared.cmp.Ordering.{Ordering}
use Rattle.std.specs.declared.cmp.Ordering.TheVariants.{Less, Equal, Greater}
use Rattle.std.specs.Cmp.{IsTotalOrder}
use Rattle.std.proofs.lemmas.Cmp.{nat_list_cmp_total, nat_cmp_total, on_total, then_total}
use Rattle.record_layout.specs.Schema.{Schema, value_of}
use Rattle.indexed_file.specs.File.{Row, stamp_of}
use Rattle.indexed_file.specs.Rank.{row_cmp}
use Rattle.indexed_file.proofs.TestLemmas.{either}

pub differ : {b : Bool} → b ≡ true → b ≡ false → ⊥
differ e k = let both : true ≡ false = sym e ∙ k in cc

-- ---- orders

from_is_lt : (o : Ordering) → is_lt o ≡ true → o ≡ Less
from_is_lt Less h = refl
from_is_lt Equal h = cc
from_is_lt Greater h = cc

by_not_lt : (o : Ordering) (P : Type 0) → is_lt o ≡ false → (o ≡ Equal → P) → (o ≡ Greater → P) → P
by_not_lt Less P h e g = absurd (cc)
by_not_lt Equal P h e g = e refl
by_not_lt Greater P h e g = g refl

gt_reverse : (o : Ordering) → is_gt (ordering_reverse o) ≡ is_lt o
gt_reverse Less = refl
gt_reverse Equal = refl
gt_reverse Greater = refl

pub ge_not_lt : (o : Ordering) → is_lt o ≡ false → is_ge o ≡ true
ge_not_lt Less h = absurd (cc)
ge_not_lt Equal h = refl
ge_not_lt Greater h = refl

pub not_lt_ge : (o : Ordering) → is_ge o ≡ true → is_lt o ≡ false
not_lt_ge Less h = absurd (cc)
not_lt_ge Equal h = refl
not_lt_ge Greater h = refl

module _ {X : Type 0} (R : X → X → Ordering) (o : IsTotalOrder R) where
  -- x is not below y, and y is not below z
  pub not_below : (x y z : X) → is_lt (R x y) ≡ false → is_lt (R y z) ≡ false → is_lt (R x z) ≡ false
  not_below x y z h k =
      either (is_lt (R x z)) (is_lt (R x z) ≡ false)
      (λ yes. let less : R x z ≡ Less = from_is_lt (R x z) yes in
      by_not_lt (R x y) (is_lt (R x z) ≡ false) h
      (λ tied. let e : R x z ≡ R y z = o.congr x y z tied in rw e k)
      (λ above. let back : R y x ≡ Less = o.antisymm y x ∙ ap ordering_reverse above in
      let low : R y z ≡ Less = o.trans y x z back less in absurd (differ (ap is_lt low) k)))
      (λ no. no)

  pub not_back : (x y : X) → is_lt (R x y) ≡ true → is_lt (R y x) ≡ false
  not_back x y h = ap is_lt (o.antisymm y x ∙ ap ordering_reverse (from_is_lt (R x y) h))

  pub not_self : (x : X) → is_lt (R x x) ≡ false
  not_self x = either (is_lt (R x x)) (is_lt (R x x) ≡ false) (λ yes. not_back x x yes) (λ no. no)

  pub below : (x y z : X) → is_lt (R x y) ≡ true → is_lt (R y z) ≡ true → is_lt (R x z) ≡ true
  below x y z h k = ap is_lt (o.trans x y z (from_is_lt (R x y) h) (from_is_lt (R y z) k))

  -- above is below the other way round
  pub gt_back : (x y : X) → is_gt (R x y) ≡ is_lt (R y x)
  gt_back x y = ap is_gt (o.antisymm x y) ∙ gt_reverse (R y x)

  -- what is not below one that is above z is above z
  pub still_above : (x y z : X) → is_gt (R x z) ≡ true → is_lt (R y x) ≡ false → is_gt (R y z) ≡ true
  still_above x y z high up =
      let low : is_lt (R z x) ≡ true = sym (gt_back x z) ∙ high in
      either (is_lt (R z y)) (is_gt (R y z) ≡ true)
      (λ yes. gt_back y z ∙ yes)
      (λ no. absurd (differ low (not_below z y x no up)))

-- ---- rows

pub row_total : (schema : Schema) (k : ℕ) → IsTotalOrder (row_cmp schema k)
row_total schema k = then_total (on_total (λ (row : Row). value_of schema k row.bytes) nat_list_cmp_total) (on_total (λ (row : Row). stamp_of k row) nat_cmp_total)

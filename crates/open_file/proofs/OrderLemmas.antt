-- Lists in an order, and the first of them that passes a test.
use Rattle.std.proofs.Common.{◌≡◌, Bool, true, false, Option, Some, None, refl, ap, ◌∙◌, arith}
use Rattle.std.specs.Prelude.{option_map}
use Rattle.std.specs.Ordering.{is_lt, is_ge, is_eq, ordering_reverse}
use Rattle.std.specs.declared.cmp.Ordering.{Ordering}
use Rattle.std.specs.declared.cmp.Ordering.TheVariants.{Less, Equal, Greater}
use Rattle.std.specs.Cmp.{IsTotalOrder}
use Rattle.std.proofs.lemmas.Grind.{common_steps}

pub either : (b : Bool) → (P : Type 0) → (b ≡ true → P) → (b ≡ false → P) → P
either b P = elim b as (λ v. (v ≡ true → P) → (v ≡ false → P) → P) [ true ↦ λ yes no. yes refl | false ↦ λ yes no. no refl ]

pub from_some : {X : Type 0} (x y : X) → Some x ≡ Some y → x ≡ y
from_some x y e = cc

pub unmapped : {X Y : Type 0} (f : X → Y) (found : Option X) → option_map f found ≡ None → found ≡ None
unmapped f found e = grind (arith, common_steps)

from_is_lt : (o : Ordering) → is_lt o ≡ true → o ≡ Less
from_is_lt o h = grind (arith, common_steps)

pub tied_ge : (o : Ordering) → is_eq o ≡ true → is_ge o ≡ true
tied_ge o e = grind (arith, common_steps)

pub above : (o : Ordering) → is_ge o ≡ true → is_eq o ≡ false → o ≡ Greater
above o h e = grind (arith, common_steps)

-- an order that is not less is equal or greater
pub by_not_lt : (o : Ordering) (P : Type 0) → is_lt o ≡ false → (o ≡ Equal → P) → (o ≡ Greater → P) → P
by_not_lt Less P h e g = absurd (cc)
by_not_lt Equal P h e g = e refl
by_not_lt Greater P h e g = g refl

module _ {X : Type 0} (R : X → X → Ordering) (o : IsTotalOrder R) where
  -- x is not below y, and y is not below z
  pub not_below : (x y z : X) → is_lt (R x y) ≡ false → is_lt (R y z) ≡ false → is_lt (R x z) ≡ false
  not_below x y z h k =
      either (is_lt (R x z)) (is_lt (R x z) ≡ false)
      (λ yes. let less : R x z ≡ Less = from_is_lt (R x z) yes in
      by_not_lt (R x y) (is_lt (R x z) ≡ false) h
      (λ tied. let e : R x z ≡ R y z = o.congr x y z tied in rw e k)
      (λ above. let back : R y x ≡ Less = o.antisymm y x ∙ ap ordering_reverse above in
      let low : R y z ≡ Less = o.trans y x z back less in
      let both = rw low at k in absurd (cc)))
      (λ no. no)

  pub not_back : (x y : X) → is_lt (R x y) ≡ true → is_lt (R y x) ≡ false
  not_back x y h =
      let less : R x y ≡ Less = from_is_lt (R x y) h in
      ap is_lt (o.antisymm y x ∙ ap ordering_reverse less)

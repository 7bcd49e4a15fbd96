-- The order of opening.
use Rattle.std.proofs.Common.{◌≡◌, ℕ, ◌<◌, ◌≤◌, ◌≢◌, Bool, true, false, not, ◌||◌, List, [], ◌∷◌, ◌++◌, length, eqb, All, suc, sym, ap, ◌∙◌, refl, arith, eqb-true, true≢false, subst, not-suc-le-zero, length-append}
use Rattle.std.specs.List.{list_any, IsDistinct}
use Rattle.std.proofs.lemmas.Cmp.{nat_eq_equiv}
use Rattle.std.proofs.lemmas.Bool.Decides.{Decides-eqb}
use Rattle.std.proofs.lemmas.List.Elements.{All-filter, All-push}
use Rattle.std.proofs.lemmas.List.Kept.{AllPairs-filter}
use Rattle.std.proofs.lemmas.Map.Keys.{IsDistinct-push}
use Rattle.std.proofs.lemmas.Map.Made.{AllPairs-from_IsDistinct, IsDistinct-from_AllPairs}
use Rattle.std.proofs.lemmas.Map.Steps.{length-le_from_distinct_below}
use Rattle.serve.specs.Files.{IsOrder, without}

pub empty_order : IsOrder []
unfolding IsDistinct
empty_order = record { distinct = tt; below = λ k d l. absurd (not-suc-le-zero l) }

-- without a number it is an order
pub order_without : (number : ℕ) (opened : List ℕ) → IsOrder opened → IsOrder (without number opened)
order_without number opened is = record {
  distinct = IsDistinct-from_AllPairs Decides-eqb (without number opened)
      (AllPairs-filter (λ x y. x ≢ y) (λ other. not (eqb number other)) opened (AllPairs-from_IsDistinct Decides-eqb opened is.distinct));
  below = All-filter (λ other. not (eqb number other)) (λ other. other < 64) opened is.below;
}

-- so it is with one more
pub order_with : (number : ℕ) (opened : List ℕ) → IsOrder opened → list_any (eqb number) opened ≡ false → number < 64 → IsOrder (opened ++ number ∷ [])
order_with number opened is new below = record {
  distinct = IsDistinct-push nat_eq_equiv opened number is.distinct new;
  below = All-push (λ other. other < 64) opened number is.below below;
}

below_first : (number first : ℕ) (rest : List ℕ) → first < 64 → (list_any (eqb number) rest ≡ true → number < 64)
    → (b : Bool) → eqb number first ≡ b → list_any (eqb number) (first ∷ rest) ≡ true → number < 64
below_first number first rest below later true is any = subst (λ n. n < 64) (sym (eqb-true number first is)) below
below_first number first rest below later false is any = later (ap (λ b. b || list_any (eqb number) rest) (sym is) ∙ any)

-- each number of an order is below 64
pub below_from_any : (number : ℕ) (opened : List ℕ) → All (λ other. other < 64) opened → list_any (eqb number) opened ≡ true → number < 64
below_from_any number [] all any = absurd (true≢false (sym any))
below_from_any number (first ∷ rest) all any =
    below_first number first rest (all 0 0 (omega arith)) (below_from_any number rest (λ k d l. all (suc k) d (omega (arith, l)))) (eqb number first) refl any

-- it has 64 numbers at most
pub order_short : (opened : List ℕ) → IsOrder opened → length opened ≤ 64
order_short opened is = length-le_from_distinct_below opened 64 is.distinct (λ number any. below_from_any number opened is.below any)

-- so an order that lacks a number has room for it
pub order_has_room : (number : ℕ) (opened : List ℕ) → IsOrder opened → list_any (eqb number) opened ≡ false → number < 64 → length opened < 64
order_has_room number opened is new below = omega (arith, order_short (opened ++ number ∷ []) (order_with number opened is new below), length-append opened (number ∷ []))

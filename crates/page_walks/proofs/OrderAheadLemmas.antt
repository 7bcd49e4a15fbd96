-- What keys that rise between two bounds tell of each of them.
use Rattle.std.proofs.Common.{◌≡◌, ℕ, zero, suc, ◌<◌, List, [], ◌∷◌, length, take, drop, get_or, Some, arith, subst, sym}
use Rattle.pages.specs.Each.{Each}
use Rattle.tree_node.specs.Order.{Ascends}
use Rattle.tree_node.proofs.OrderLemmas.{Each-weaker}
use Rattle.tree_search.specs.Tree.{Bound, Above, Below, NotBelow}
use Rattle.page_walks.specs.Order.{AreBetween, AreKeysInside, key_ahead}

-- each is below the one behind it, or the high bound
pub is_below_next : (width : ℕ) (high : Bound) (es : List (List ℕ)) (i : ℕ) → i < length es → Ascends width es → Each (λ e. Below high (take width e)) es
    → Below (key_ahead width (drop (suc i) es) high) (take width (get_or es i []))
is_below_next width high [] i inside rises under = absurd (omega arith)
is_below_next width high (x ∷ []) zero inside rises under = under.0
is_below_next width high (x ∷ y ∷ ys) zero inside rises under = rises.0.0
is_below_next width high (x ∷ xs) (suc i) inside rises under = is_below_next width high xs i (omega arith) rises.1 under.1

pub under_high : (width : ℕ) (low high : Bound) (es : List (List ℕ)) → AreKeysInside width low high es → Each (λ e. Below high (take width e)) es
under_high width low high es inside = Each-weaker (λ e. NotBelow low (take width e) × Below high (take width e)) (λ e. Below high (take width e)) (λ e k. k.1) es inside

pub first_from : (width : ℕ) (low high : Bound) (es : List (List ℕ)) → 0 < length es → AreKeysInside width low high es → NotBelow low (take width (get_or es 0 []))
first_from width low high [] some inside = absurd (omega arith)
first_from width low high (x ∷ xs) some inside = inside.0.0

pub separators_under : (width : ℕ) (low high : Bound) (ss : List (List ℕ)) → Each (λ s. take width s ≡ s) ss → AreBetween low ss high → Each (λ s. Below high (take width s)) ss
separators_under width low high [] whole between = tt
separators_under width low high (s ∷ ss) whole between = (subst (Below high) (sym whole.0) between.1, separators_under width (Some s) high ss whole.1 between.2)

pub first_over : (low high : Bound) (ss : List (List ℕ)) → 0 < length ss → AreBetween low ss high → Above low (get_or ss 0 [])
first_over low high [] some between = absurd (omega arith)
first_over low high (s ∷ ss) some between = between.0

-- Keys that rise, looked at from the last one back.
use Rattle.std.proofs.Common.{◌≡◌, ℕ, suc, ◌<◌, true, false, List, [], ◌∷◌, length, take, drop, get_or, Some, None, refl, ap, sym, ◌∙◌, arith, subst}
use Rattle.std.proofs.Math.Seq.{drop-cons}
use Rattle.tree_node.specs.Order.{less, Ascends}
use Rattle.pages.specs.Each.{Each}
use Rattle.tree_node.proofs.OrderLemmas.{less-trans, less_itself, either, Each-weaker}
use Rattle.tree_search.specs.Tree.{Bound, NotBelow, Above, Below}
use Rattle.tree_search.proofs.RowLemmas.{NotBelow-trans, Below-trans}
use Rattle.page_walks.specs.Order.{Risen, key_ahead, AreBetween}

abbrev pub BothOf : ℕ → Bound → List (List ℕ) → Type 0
BothOf width high es = Ascends width es × Each (λ e. Below high (take width e)) es

one_more : (width : ℕ) (high : Bound) (x : List ℕ) (xs : List (List ℕ)) → Ascends width xs → Each (λ e. Below high (take width e)) xs
    → Below (key_ahead width xs high) (take width x) → BothOf width high (x ∷ xs)
one_more width high x [] rises under b = ((tt, tt), (b, tt))
one_more width high x (y ∷ ys) rises under b = (
  (
    (
      b,
      Each-weaker (λ z. less (take width y) (take width z) ≡ true) (λ z. less (take width x) (take width z) ≡ true)
          (λ z k. less-trans (take width x) (take width y) (take width z) b k) ys rises.0,
    ),
    rises,
  ),
  (Below-trans high (take width y) (take width x) under.0 b, under),
)

pub risen_more : (width : ℕ) (high : Bound) (es : List (List ℕ)) (i : ℕ) (above : Bound) → i < length es → Risen width high es (suc i) above
    → Below above (take width (get_or es i [])) → Risen width high es i (Some (take width (get_or es i [])))
risen_more width high es i above inside risen b =
    let both = one_more width high (get_or es i []) (drop (suc i) es) risen.rises risen.under (subst (λ (l : Bound). Below l (take width (get_or es i []))) risen.ahead b) in
    record {
      rises = rw (drop-cons es i [] inside) both.0;
      under = rw (drop-cons es i [] inside) both.1;
      ahead = rw (drop-cons es i [] inside) refl;
    }

not_after : (low : Bound) (x y : List ℕ) → NotBelow low x → less x y ≡ true → NotBelow low y
not_after None x y h k = tt
not_after (Some low) x y h k = NotBelow-trans (Some low) x y h (back x y k) where
  back : (x y : List ℕ) → less x y ≡ true → less y x ≡ false
  back x y k = either (less y x) (less y x ≡ false) (λ yes. let bad : less x x ≡ true = less-trans x y x k yes in cc (bad, less_itself x)) (λ no'. no')

-- and from the low bound on, where the first is
pub from_low : (width : ℕ) (low high : Bound) (es : List (List ℕ)) → Ascends width es → Each (λ e. Below high (take width e)) es → 0 < length es
    → NotBelow low (take width (get_or es 0 [])) → Each (λ e. NotBelow low (take width e) × Below high (take width e)) es
from_low width low high [] rises under some first = tt
from_low width low high (x ∷ xs) rises under some first = ((first, under.0), rest xs rises.0 under.1) where
  rest : (ys : List (List ℕ)) → Each (λ y. less (take width x) (take width y) ≡ true) ys → Each (λ e. Below high (take width e)) ys → Each (λ e. NotBelow low (take width e) × Below high (take width e)) ys
  rest [] h k = tt
  rest (y ∷ ys) h k = ((not_after low (take width x) (take width y) first h.0, k.0), rest ys h.1 k.1)

-- separators that rise between the bounds
pub between_keys : (width : ℕ) (low high : Bound) (ss : List (List ℕ)) → Each (λ s. take width s ≡ s) ss → Ascends width ss → Each (λ s. Below high (take width s)) ss
    → (0 < length ss → Above low (get_or ss 0 [])) → AreBetween low ss high
between_keys width low high [] whole rises under first = tt
between_keys width low high (s ∷ ss) whole rises under first =
    (first (omega arith), subst (Below high) whole.0 under.0, between_keys width (Some s) high ss whole.1 rises.1 under.1 (next ss whole.1 rises.0)) where
      next : (ts : List (List ℕ)) → Each (λ t. take width t ≡ t) ts → Each (λ t. less (take width s) (take width t) ≡ true) ts → 0 < length ts → Above (Some s) (get_or ts 0 [])
      next [] w h some = absurd (omega arith)
      next (t ∷ ts) w h some = ap (λ (a : List ℕ). less a t) (sym whole.0) ∙ ap (less (take width s)) (sym w.0) ∙ h.0

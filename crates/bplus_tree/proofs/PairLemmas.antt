-- Two neighbours in a row, which can share their entries anew or become one.
use Rattle.std.proofs.Common.{◌≡◌, ℕ, zero, suc, ◌<◌, List, [], ◌∷◌, ◌++◌, length, get_or, set, Some, refl, ap, arith, remove}
use Rattle.tree_search.specs.Tree.{Bound, Above, Below, IsRow}
use Rattle.tree_search.proofs.RowLemmas.{Above-trans, Below-trans}

module _ {X : Type 0} (P : Bound → Bound → X → Type 0) where
  -- the members on both sides of separator j
  pub record PairAt (low : Bound) (ss : List (List ℕ)) (xs : List X) (high : Bound) (j : ℕ) : Type 0 where
    pub front : List X
    pub left : X
    pub right : X
    pub back : List X
    pub from : Bound
    pub to : Bound
    pub is : xs ≡ front ++ left ∷ right ∷ back
    pub at : length front ≡ j
    pub under : Above from (get_or ss j [])
    pub over : Below to (get_or ss j [])
    pub left_between : P from (Some (get_or ss j [])) left
    pub right_between : P (Some (get_or ss j [])) to right
    pub move : (y z : X) (s : List ℕ) → Above from s → Below to s → P from (Some s) y → P (Some s) to z → IsRow P low (set ss j s) (front ++ y ∷ z ∷ back) high
    pub join : (y : X) → P from to y → IsRow P low (remove ss j) (front ++ y ∷ back) high

  row_some : (low : Bound) (ss : List (List ℕ)) (high : Bound) → IsRow P low ss [] high → ⊥
  row_some low [] high row = row
  row_some low (s ∷ ss) high row = row

  pub pair_at : (low : Bound) (ss : List (List ℕ)) (xs : List X) (high : Bound) (j : ℕ) → IsRow P low ss xs high → j < length ss → PairAt low ss xs high j
  pair_at low [] xs high j row h = absurd (omega arith)
  pair_at low (s ∷ ss) [] high j row h = absurd row
  pair_at low (s ∷ ss) (x ∷ []) high zero row h = absurd (row_some (Some s) ss high row.3)
  pair_at low (s ∷ []) (x ∷ y ∷ []) high zero row h = record {
    front = [];
    left = x;
    right = y;
    back = [];
    from = low;
    to = high;
    is = refl;
    at = refl;
    under = row.0;
    over = row.1;
    left_between = row.2;
    right_between = row.3;
    move = λ a b t l u p q. (l, u, p, q);
    join = λ a p. p;
  }
  pair_at low (s ∷ []) (x ∷ y ∷ z ∷ zs) high zero row h = absurd row.3
  pair_at low (s ∷ t ∷ ts) (x ∷ y ∷ ys) high zero row h = record {
    front = [];
    left = x;
    right = y;
    back = ys;
    from = low;
    to = Some t;
    is = refl;
    at = refl;
    under = row.0;
    over = row.3.0;
    left_between = row.2;
    right_between = row.3.2;
    move = λ a b u l v p q. (l, Below-trans high t u row.3.1 v, p, (v, row.3.1, q, row.3.3));
    join = λ a p. (Above-trans low s t row.0 row.3.0, row.3.1, p, row.3.3);
  }
  pair_at low (s ∷ ss) (x ∷ xs) high (suc j) row h =
      let rest = pair_at (Some s) ss xs high j row.3 (omega arith) in
      record {
        front = x ∷ rest.front;
        left = rest.left;
        right = rest.right;
        back = rest.back;
        from = rest.from;
        to = rest.to;
        is = ap (λ (l : List X). x ∷ l) rest.is;
        at = ap suc rest.at;
        under = rest.under;
        over = rest.over;
        left_between = rest.left_between;
        right_between = rest.right_between;
        move = λ a b u l v p q. (row.0, row.1, row.2, rest.move a b u l v p q);
        join = λ a p. (row.0, row.1, row.2, rest.join a p);
      }

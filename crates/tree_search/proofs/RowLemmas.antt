-- The member of a row below which a key belongs.
use Rattle.std.proofs.Common.{◌≡◌, ℕ, zero, suc, ◌+◌, ◌<◌, ◌≤◌, true, false, List, [], ◌∷◌, ◌++◌, length, take, drop, get_or, Some, None, refl, ap, arith, flat_map}
use Rattle.pages.specs.Each.{Each}
use Rattle.tree_node.specs.Order.{less, Ascends}
use Rattle.tree_node.proofs.OrderLemmas.{less_itself, less-trans, not_less, not_less_through, either, between_less, Each-weaker}
use Rattle.tree_search.specs.Tree.{Bound, NotBelow, Above, Below, IsRow}
use Rattle.tree_search.specs.Range.{IsBeyond}

pub Each-append : {X : Type 0} (P : X → Type 0) (xs ys : List X) → Each P xs → Each P ys → Each P (xs ++ ys)
Each-append P [] ys h k = k
Each-append P (x ∷ xs) ys h k = (h.0, Each-append P xs ys h.1 k)

module _ {X : Type 0} (P : X → Type 0) where
  pub each_left : (xs ys : List X) → Each P (xs ++ ys) → Each P xs
  each_left [] ys h = tt
  each_left (x ∷ xs) ys h = (h.0, each_left xs ys h.1)

  pub each_right : (xs ys : List X) → Each P (xs ++ ys) → Each P ys
  each_right [] ys h = h
  each_right (x ∷ xs) ys h = each_right xs ys h.1

pub ascends_join : (width : ℕ) (s : List ℕ) (xs ys : List (List ℕ)) → Ascends width xs → Ascends width ys → Each (λ e. less (take width e) s ≡ true) xs → Each (λ e. less (take width e) s ≡ false) ys
    → Ascends width (xs ++ ys)
ascends_join width s [] ys rx ry below above = ry
ascends_join width s (x ∷ xs) ys rx ry below above = (
  Each-append (λ y. less (take width x) (take width y) ≡ true) xs ys rx.0
      (Each-weaker (λ e. less (take width e) s ≡ false) (λ y. less (take width x) (take width y) ≡ true) (λ y a. between_less (take width x) (take width y) s below.0 a) ys above),
  ascends_join width s xs ys rx.1 ry below.1 above,
)

pub row_length : {X : Type 0} (P : Bound → Bound → X → Type 0) (low : Bound) (ss : List (List ℕ)) (xs : List X) (high : Bound) → IsRow P low ss xs high → length xs ≡ length ss + 1
row_length P low [] [] high row = absurd row
row_length P low [] (x ∷ []) high row = refl
row_length P low [] (x ∷ y ∷ xs) high row = absurd row
row_length P low (s ∷ ss) [] high row = absurd row
row_length P low (s ∷ ss) (x ∷ xs) high row = let rec = row_length P (Some s) ss xs high row.3 in omega arith

pub NotBelow-trans : (low : Bound) (s e : List ℕ) → NotBelow low s → less e s ≡ false → NotBelow low e
NotBelow-trans None s e h k = tt
NotBelow-trans (Some low) s e h k =
    either (less e low) (less e low ≡ false) (λ yes. let no : less e s ≡ true = between_less e s low yes h in cc) (λ no. no)

pub above_not_below : (low : Bound) (s : List ℕ) → Above low s → NotBelow low s
above_not_below None s h = tt
above_not_below (Some low) s h = not_less low s low h (less_itself low)

pub Above-trans : (low : Bound) (s t : List ℕ) → Above low s → less s t ≡ true → Above low t
Above-trans None s t h k = tt
Above-trans (Some low) s t h k = less-trans low s t h k

pub Below-trans : (high : Bound) (s e : List ℕ) → Below high s → less e s ≡ true → Below high e
Below-trans None s e h k = tt
Below-trans (Some high) s e h k = less-trans e s high k h

-- what is not below a bound is not below what lies below that bound
pub IsBeyond-under : (width : ℕ) (s : List ℕ) (high : Bound) → Below high s → (e : List ℕ) → IsBeyond width high e → IsBeyond width (Some s) e
IsBeyond-under width s None h e b = absurd b
IsBeyond-under width s (Some high) h e b = not_less_through s high (take width e) h b

abbrev pub Inside : ℕ → Bound → Bound → List ℕ → Type 0
Inside width low high e = NotBelow low (take width e) × Below high (take width e)

module _ (width : ℕ) {X : Type 0} (P : Bound → Bound → X → Type 0) (f : X → List (List ℕ))
    (bounded : (low high : Bound) (x : X) → P low high x → Each (Inside width low high) (f x)) where
  pub row_bounded : (low : Bound) (ss : List (List ℕ)) (xs : List X) (high : Bound) → IsRow P low ss xs high → Each (Inside width low high) (flat_map f xs)
  row_bounded low [] [] high row = absurd row
  row_bounded low [] (x ∷ []) high row = Each-append (Inside width low high) (f x) [] (bounded low high x row) tt
  row_bounded low [] (x ∷ y ∷ xs) high row = absurd row
  row_bounded low (s ∷ ss) [] high row = absurd row
  row_bounded low (s ∷ ss) (x ∷ xs) high row =
      Each-append (Inside width low high) (f x) (flat_map f xs)
      (Each-weaker (Inside width low (Some s)) (Inside width low high) (λ e h. (h.0, Below-trans high s (take width e) row.1 h.1)) (f x) (bounded low (Some s) x row.2))
      (Each-weaker (Inside width (Some s) high) (Inside width low high) (λ e h. (NotBelow-trans low s (take width e) (above_not_below low s row.0) h.0, h.1)) (flat_map f xs) (row_bounded (Some s) ss xs high row.3))

-- The member of a row at which a key belongs. Those in front of it have entries below the key, those behind it above. It can be
-- changed within its bounds, and split in two at a separator within them.
pub record RowAt (width : ℕ) (X : Type 0) (P : Bound → Bound → X → Type 0) (f : X → List (List ℕ)) (low : Bound) (ss : List (List ℕ)) (xs : List X) (high : Bound) (key : List ℕ) (i : ℕ) : Type 0 where
  pub front : List X
  pub here : X
  pub back : List X
  pub from : Bound
  pub to : Bound
  pub is : xs ≡ front ++ here ∷ back
  pub at : length front ≡ i
  pub few : i ≤ length ss
  pub between : P from to here
  pub under : NotBelow low key → NotBelow from key
  pub over : Below high key → Below to key
  pub below : Each (λ e. less (take width e) key ≡ true) (flat_map f front)
  pub above : Each (λ e. less key (take width e) ≡ true) (flat_map f back)
  pub to_is : i < length ss → to ≡ Some (get_or ss i [])
  pub beyond : Each (IsBeyond width to) (flat_map f back)
  pub further : (e : List ℕ) → IsBeyond width high e → IsBeyond width to e
  pub tail : 0 < length back → (seps : List (List ℕ)) × IsRow P to seps back high
  pub put : (y : X) → P from to y → IsRow P low ss (front ++ y ∷ back) high
  pub split : (y z : X) (s : List ℕ) → Above from s → Below to s → P from (Some s) y → P (Some s) to z
      → IsRow P low (take i ss ++ s ∷ drop i ss) (front ++ y ∷ z ∷ back) high

module _ (width : ℕ) {X : Type 0} (P : Bound → Bound → X → Type 0) (f : X → List (List ℕ))
    (bounded : (low high : Bound) (x : X) → P low high x → Each (Inside width low high) (f x)) where
  pub row_at : (low : Bound) (ss : List (List ℕ)) (xs : List X) (high : Bound) (key : List ℕ) (i : ℕ) → IsRow P low ss xs high → i ≤ length ss
      → Each (λ s. less key s ≡ false) (take i ss) → Each (λ s. less key s ≡ true) (drop i ss) → RowAt width X P f low ss xs high key i
  row_at low [] [] high key i row h upto above = absurd row
  row_at low [] (x ∷ y ∷ xs) high key i row h upto above = absurd row
  row_at low [] (x ∷ []) high key zero row h upto above = record {
    front = [];
    here = x;
    back = [];
    from = low;
    to = high;
    is = refl;
    at = refl;
    few = h;
    between = row;
    under = λ u. u;
    over = λ u. u;
    below = tt;
    above = tt;
    to_is = λ more. absurd (omega arith);
    beyond = tt;
    further = λ e b. b;
    tail = λ more. absurd (omega arith);
    put = λ y p. p;
    split = λ y z s l u p q. (l, u, p, q);
  }
  row_at low [] (x ∷ []) high key (suc i) row h upto above = absurd (omega arith)
  row_at low (s ∷ ss) [] high key i row h upto above = absurd row
  row_at low (s ∷ ss) (x ∷ xs) high key zero row h upto above = record {
    front = [];
    here = x;
    back = xs;
    from = low;
    to = Some s;
    is = refl;
    at = refl;
    few = h;
    between = row.2;
    under = λ u. u;
    over = λ u. above.0;
    below = tt;
    above = Each-weaker (Inside width (Some s) high) (λ e. less key (take width e) ≡ true)
        (λ e b. between_less key (take width e) s above.0 b.0) (flat_map f xs) (row_bounded width P f bounded (Some s) ss xs high row.3);
    to_is = λ more. refl;
    beyond = Each-weaker (Inside width (Some s) high) (IsBeyond width (Some s)) (λ e b. b.0) (flat_map f xs) (row_bounded width P f bounded (Some s) ss xs high row.3);
    further = IsBeyond-under width s high row.1;
    tail = λ more. (ss, row.3);
    put = λ y p. (row.0, row.1, p, row.3);
    split = λ y z t l u p q. (l, Below-trans high s t row.1 u, p, (u, row.1, q, row.3));
  }
  row_at low (s ∷ ss) (x ∷ xs) high key (suc i) row h upto above =
      let rest = row_at (Some s) ss xs high key i row.3 (omega arith) upto.1 above in
      record {
        front = x ∷ rest.front;
        here = rest.here;
        back = rest.back;
        from = rest.from;
        to = rest.to;
        is = ap (λ (l : List X). x ∷ l) rest.is;
        at = ap suc rest.at;
        few = h;
        between = rest.between;
        under = λ u. rest.under upto.0;
        over = rest.over;
        below = Each-append (λ e. less (take width e) key ≡ true) (f x) (flat_map f rest.front)
            (Each-weaker (Inside width low (Some s)) (λ e. less (take width e) key ≡ true) (λ e b. between_less (take width e) key s b.1 upto.0) (f x) (bounded low (Some s) x row.2))
            rest.below;
        above = rest.above;
        to_is = λ more. rest.to_is (omega arith);
        beyond = rest.beyond;
        further = rest.further;
        tail = rest.tail;
        put = λ y p. (row.0, row.1, row.2, rest.put y p);
        split = λ y z t l u p q. (row.0, row.1, row.2, rest.split y z t l u p q);
      }

-- the first member of a row, and what stands behind it
pub record RowHead (width : ℕ) (X : Type 0) (P : Bound → Bound → X → Type 0) (f : X → List (List ℕ)) (low : Bound) (x : X) (xs : List X) (high : Bound) : Type 0 where
  pub to : Bound
  pub between : P low to x
  pub beyond : Each (IsBeyond width to) (flat_map f xs)
  pub further : (e : List ℕ) → IsBeyond width high e → IsBeyond width to e

pub row_head : (width : ℕ) {X : Type 0} (P : Bound → Bound → X → Type 0) (f : X → List (List ℕ)) → ((low high : Bound) (x : X) → P low high x → Each (Inside width low high) (f x))
    → (low : Bound) (ss : List (List ℕ)) (x : X) (xs : List X) (high : Bound) → IsRow P low ss (x ∷ xs) high → RowHead width X P f low x xs high
row_head width P f bounded low [] x [] high row = record { to = high; between = row; beyond = tt; further = λ e b. b }
row_head width P f bounded low [] x (y ∷ xs) high row = absurd row
row_head width P f bounded low (s ∷ ss) x xs high row = record {
  to = Some s;
  between = row.2;
  beyond = Each-weaker (Inside width (Some s) high) (IsBeyond width (Some s)) (λ e b. b.0) (flat_map f xs) (row_bounded width P f bounded (Some s) ss xs high row.3);
  further = IsBeyond-under width s high row.1;
}

-- the separators of a row rise
module _ (width : ℕ) {X : Type 0} (P : Bound → Bound → X → Type 0) where
  row_above : (low : Bound) (ss : List (List ℕ)) (xs : List X) (high : Bound) → IsRow P low ss xs high → Each (Above low) ss
  row_above low [] xs high row = tt
  row_above low (s ∷ ss) [] high row = absurd row
  row_above low (s ∷ ss) (x ∷ xs) high row = (row.0, Each-weaker (Above (Some s)) (Above low) (λ t h. Above-trans low s t row.0 h) ss (row_above (Some s) ss xs high row.3))

  whole_above : (s : List ℕ) (ss : List (List ℕ)) → take width s ≡ s → Each (λ t. take width t ≡ t) ss → Each (Above (Some s)) ss → Each (λ t. less (take width s) (take width t) ≡ true) ss
  whole_above s [] same whole h = tt
  whole_above s (t ∷ ss) same whole h = (rw (same, whole.0) h.0, whole_above s ss same whole.1 h.1)

  pub row_rises : (low : Bound) (ss : List (List ℕ)) (xs : List X) (high : Bound) → IsRow P low ss xs high → Each (λ s. take width s ≡ s) ss → Ascends width ss
  row_rises low [] xs high row whole = tt
  row_rises low (s ∷ ss) [] high row whole = absurd row
  row_rises low (s ∷ ss) (x ∷ xs) high row whole =
      (whole_above s ss whole.0 whole.1 (row_above (Some s) ss xs high row.3), row_rises (Some s) ss xs high row.3 whole.1)

  pub record RowSplit (low : Bound) (ss : List (List ℕ)) (xs : List X) (high : Bound) (m : ℕ) : Type 0 where
    pub under : Above low (get_or ss m [])
    pub over : Below high (get_or ss m [])
    pub left : IsRow P low (take m ss) (take (suc m) xs) (Some (get_or ss m []))
    pub right : IsRow P (Some (get_or ss m [])) (drop (suc m) ss) (drop (suc m) xs) high

  -- a row, split at separator m
  pub row_split : (low : Bound) (ss : List (List ℕ)) (xs : List X) (high : Bound) (m : ℕ) → IsRow P low ss xs high → m < length ss → RowSplit low ss xs high m
  row_split low [] xs high m row h = absurd (omega arith)
  row_split low (s ∷ ss) [] high m row h = absurd row
  row_split low (s ∷ ss) (x ∷ xs) high zero row h = record { under = row.0; over = row.1; left = row.2; right = row.3 }
  row_split low (s ∷ ss) (x ∷ xs) high (suc m) row h =
      let rest = row_split (Some s) ss xs high m row.3 (omega arith) in
      record { under = Above-trans low s (get_or ss m []) row.0 rest.under; over = rest.over; left = (row.0, rest.under, row.2, rest.left); right = rest.right }

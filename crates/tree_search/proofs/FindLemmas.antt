-- The first entry that passes a test, in lists whose keys rise.
use Rattle.std.proofs.Common.{◌≡◌, ℕ, zero, suc, ◌<◌, ◌≤◌, Bool, true, false, not, List, [], ◌∷◌, ◌++◌, length, take, drop, get_or, Option, Some, None, cond, refl, ap, sym, ◌∙◌, arith}
use Rattle.std.specs.List.{find}
use Rattle.std.specs.Option.{option_or}
use Rattle.std.specs.Str.{bytes_eq}
use Rattle.std.proofs.Math.Seq.{drop-cons}
use Rattle.std.proofs.lemmas.List.{take-append-drop, drop_all}
use Rattle.std.proofs.lemmas.List.Folds.{find-append}
use Rattle.std.proofs.lemmas.Slice.Eq.{bytes_eq-Decides}
use Rattle.pages.specs.Each.{Each}
use Rattle.tree_node.specs.Order.{less, Ascends, IsRank, AreBelow}
use Rattle.tree_node.proofs.OrderLemmas.{less_itself, either, Each-weaker}
use Rattle.tree_search.specs.Calls.{entry_of}

pub find_none : {X : Type 0} (p : X → Bool) (xs : List X) → Each (λ x. p x ≡ false) xs → find p xs ≡ None
find_none p [] none = refl
find_none p (x ∷ xs) none = ap (λ b. cond b (Some x) (find p xs)) none.0 ∙ find_none p xs none.1

or_none : {X : Type 0} (o : Option X) → option_or o None ≡ o
or_none None = refl
or_none (Some x) = refl

-- nothing passes in front
pub find_behind : {X : Type 0} (p : X → Bool) (xs ys : List X) → Each (λ x. p x ≡ false) xs → find p (xs ++ ys) ≡ find p ys
find_behind p xs ys none = find-append p xs ys ∙ ap (λ o. option_or o (find p ys)) (find_none p xs none)

-- nothing passes behind
pub find_before : {X : Type 0} (p : X → Bool) (xs ys : List X) → Each (λ x. p x ≡ false) ys → find p (xs ++ ys) ≡ find p xs
find_before p xs ys none = find-append p xs ys ∙ ap (option_or (find p xs)) (find_none p ys none) ∙ or_none (find p xs)

-- a key below another is not that key
pub differs : (x y : List ℕ) → less x y ≡ true → bytes_eq x y ≡ false
differs x y h =
    either (bytes_eq x y) (bytes_eq x y ≡ false)
    (λ yes. let same : x ≡ y = (bytes_eq-Decides x y).0 yes in let k : less x x ≡ true = ap (less x) same ∙ h in let no = less_itself x in cc)
    (λ no. no)

pub differs_back : (x y : List ℕ) → less y x ≡ true → bytes_eq x y ≡ false
differs_back x y h =
    either (bytes_eq x y) (bytes_eq x y ≡ false)
    (λ yes. let same : x ≡ y = (bytes_eq-Decides x y).0 yes in let k : less y y ≡ true = ap (less y) (sym same) ∙ h in let no = less_itself y in cc)
    (λ no. no)

-- what is above something that is not below a key is not that key
pub apart_above : (a key y : List ℕ) → less a key ≡ false → less a y ≡ true → bytes_eq y key ≡ false
apart_above a key y h k =
    either (bytes_eq y key) (bytes_eq y key ≡ false)
    (λ yes. let same : y ≡ key = (bytes_eq-Decides y key).0 yes in let no : less a key ≡ true = ap (less a) (sym same) ∙ k in cc)
    (λ no. no)

module _ (width : ℕ) (key : List ℕ) where
  apart_below : (es : List (List ℕ)) → AreBelow width key es → Each (λ e. bytes_eq (take width e) key ≡ false) es
  apart_below es h = Each-weaker (λ e. less (take width e) key ≡ true) (λ e. bytes_eq (take width e) key ≡ false) (λ e b. differs (take width e) key b) es h

  rest_rises : (es : List (List ℕ)) (i : ℕ) → i < length es → Ascends width es → Each (λ y. less (take width (get_or es i [])) (take width y) ≡ true) (drop (suc i) es)
  rest_rises [] i h rises = absurd (omega arith)
  rest_rises (x ∷ xs) zero h rises = rises.0
  rest_rises (x ∷ xs) (suc i) h rises = rest_rises xs i (omega arith) rises.1

  -- the entries behind one that is not below the key
  pub apart_behind : (es : List (List ℕ)) (r : ℕ) → r < length es → Ascends width es → less (take width (get_or es r [])) key ≡ false → Each (λ y. bytes_eq (take width y) key ≡ false) (drop (suc r) es)
  apart_behind es r inside rises first =
      Each-weaker (λ y. less (take width (get_or es r [])) (take width y) ≡ true) (λ y. bytes_eq (take width y) key ≡ false)
      (λ y above. apart_above (take width (get_or es r [])) key (take width y) first above) (drop (suc r) es) (rest_rises es r inside rises)

  pub found_past : (es : List (List ℕ)) (r : ℕ) → IsRank width key es r → length es ≤ r → entry_of width key es ≡ None
  found_past es r place past =
      ap (entry_of width key) (sym (take-append-drop r es))
      ∙ find_behind (λ e. bytes_eq (take width e) key) (take r es) (drop r es) (apart_below (take r es) place.below)
      ∙ ap (entry_of width key) (drop_all r es past)

  pub found_at : (es : List (List ℕ)) (r : ℕ) → IsRank width key es r → r < length es → bytes_eq (take width (get_or es r [])) key ≡ true → entry_of width key es ≡ Some (get_or es r [])
  found_at es r place inside hit =
      ap (entry_of width key) (sym (take-append-drop r es))
      ∙ find_behind (λ e. bytes_eq (take width e) key) (take r es) (drop r es) (apart_below (take r es) place.below)
      ∙ ap (entry_of width key) (drop-cons es r [] inside)
      ∙ ap (λ b. cond b (Some (get_or es r [])) (entry_of width key (drop (suc r) es))) hit

  pub missed_at : (es : List (List ℕ)) (r : ℕ) → IsRank width key es r → Ascends width es → r < length es → bytes_eq (take width (get_or es r [])) key ≡ false → entry_of width key es ≡ None
  missed_at es r place rises inside miss =
      let first = (rw (drop-cons es r [] inside) at place.above).0 in
      let behind = Each-weaker (λ y. less (take width (get_or es r [])) (take width y) ≡ true) (λ y. bytes_eq (take width y) key ≡ false)
      (λ y above. apart_above (take width (get_or es r [])) key (take width y) first above) (drop (suc r) es) (rest_rises es r inside rises) in
      ap (entry_of width key) (sym (take-append-drop r es))
      ∙ find_behind (λ e. bytes_eq (take width e) key) (take r es) (drop r es) (apart_below (take r es) place.below)
      ∙ ap (entry_of width key) (drop-cons es r [] inside)
      ∙ ap (λ b. cond b (Some (get_or es r [])) (entry_of width key (drop (suc r) es))) miss
      ∙ find_none (λ e. bytes_eq (take width e) key) (drop (suc r) es) behind

pub is_false : (b : Bool) → not b ≡ true → b ≡ false
is_false true h = cc h
is_false false h = refl

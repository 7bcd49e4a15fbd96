-- As many rising entries as there are rows, each of which is that of a row, are the rows' entries in order.
use Rattle.std.proofs.Common.{◌≡◌, ◌≢◌, ◌⊎◌, suc, ◌+◌, ◌≤◌, Bool, true, false, List, [], ◌∷◌, ◌++◌, length, refl, ap, sym, ◌∙◌, arith, inl, inr, cond, map}
use Rattle.std.proofs.lemmas.List.{length-append}
use Rattle.std.specs.Prelude.{if◌then◌else◌}
use Rattle.pages.specs.Each.{Each}
use Rattle.pages.proofs.EachLemmas.{each_weaker, each_join, each_left, each_right}
use Rattle.record_heap.specs.Chain.{IsOneOf}
use Rattle.open_file.proofs.OrderLemmas.{either}
use Rattle.file_building.specs.Ranks.{RisesBy, Untied, AreUntied}

-- sorted by insertion
abbrev pub put_by : {X : Type 0} → (X → X → Bool) → X → List X → List X
put_by lt r [] = r ∷ []
put_by lt r (x ∷ xs) = if lt x r then x ∷ put_by lt r xs else r ∷ x ∷ xs

abbrev pub sorted_by : {X : Type 0} → (X → X → Bool) → List X → List X
sorted_by lt [] = []
sorted_by lt (r ∷ rs) = put_by lt r (sorted_by lt rs)

module _ {X : Type 0} (lt : X → X → Bool) (onward : (x y z : X) → lt x y ≡ true → lt y z ≡ true → lt x z ≡ true) (itself : (x : X) → lt x x ≡ false)
    (decide : (x y : X) → (x ≡ y) ⊎ (x ≢ y)) where
  -- r stands among them, behind the first and before the last
  pub record Found (r : X) (es : List X) : Type 0 where
    pub front : List X
    pub back : List X
    pub is : es ≡ front ++ r ∷ back

  look : (r : X) (es : List X) → Found r es ⊎ Each (λ e. e ≢ r) es
  look r [] = inr tt
  look r (e ∷ es) = by_same (look r es) (decide e r) where
    by_rest : e ≢ r → Found r es ⊎ Each (λ x. x ≢ r) es → Found r (e ∷ es) ⊎ Each (λ x. x ≢ r) (e ∷ es)
    by_rest off (inl f) = inl (record { front = e ∷ f.front; back = f.back; is = ap (λ (l : List X). e ∷ l) f.is })
    by_rest off (inr out) = inr (off, out)

    by_same : Found r es ⊎ Each (λ x. x ≢ r) es → (e ≡ r) ⊎ (e ≢ r) → Found r (e ∷ es) ⊎ Each (λ x. x ≢ r) (e ∷ es)
    by_same rest (inl same) = inl (record { front = []; back = es; is = ap (λ (x : X). x ∷ es) same })
    by_same rest (inr off) = by_rest off rest

  -- those that are not r are among the others
  others : (r : X) (rs es : List X) → Each (λ e. IsOneOf (r ∷ rs) e) es → Each (λ e. e ≢ r) es → Each (λ e. IsOneOf rs e) es
  others r rs [] all off = tt
  others r rs (e ∷ es) all off = (one all.0, others r rs es all.1 off.1) where
    one : (e ≡ r) ⊎ IsOneOf rs e → IsOneOf rs e
    one (inl same) = absurd (off.0 same)
    one (inr i) = i

  apart : (x y : X) → lt x y ≡ true → x ≢ y
  apart x y h same = let bad : lt x x ≡ true = ap (lt x) same ∙ h in cc (bad, itself x)

  -- what is known of a rising list cut at r
  pub record Cut (r : X) (front back : List X) : Type 0 where
    pub rises : RisesBy lt (front ++ back)
    pub below : Each (λ e. lt e r ≡ true) front
    pub above : Each (λ e. lt r e ≡ true) back

  cut : (r : X) (front back : List X) → RisesBy lt (front ++ r ∷ back) → Cut r front back
  cut r [] back rises = record { rises = rises.1; below = tt; above = rises.0 }
  cut r (x ∷ front) back rises =
      let rest = cut r front back rises.1 in
      let right = each_right (λ y. lt x y ≡ true) front (r ∷ back) rises.0 in
      record {
        rises = (each_join (λ y. lt x y ≡ true) front back (each_left (λ y. lt x y ≡ true) front (r ∷ back) rises.0) right.1, rest.rises);
        below = (right.0, rest.below);
        above = rest.above;
      }

  put_there : (r : X) (front back : List X) → Each (λ e. lt e r ≡ true) front → Each (λ e. lt r e ≡ true) back → put_by lt r (front ++ back) ≡ front ++ r ∷ back
  put_there r [] [] below above = refl
  put_there r [] (b ∷ bs) below above =
      let no : lt b r ≡ false = either (lt b r) (lt b r ≡ false) (λ hit. let bad : lt r r ≡ true = onward r b r above.0 hit in cc (bad, itself r)) (λ miss. miss) in
      ap (λ (t : Bool). cond t (b ∷ put_by lt r bs) (r ∷ b ∷ bs)) no
  put_there r (x ∷ front) back below above =
      ap (λ (t : Bool). cond t (x ∷ put_by lt r (front ++ back)) (r ∷ x ∷ (front ++ back))) below.0
      ∙ ap (λ (l : List X). x ∷ l) (put_there r front back below.1 above)

  -- they are no more than the rows, and where they are as many, they are the rows' entries in order
  pub record AreSorted (es rs : List X) : Type 0 where
    pub few : length es ≤ length rs
    pub are : length es ≡ length rs → sorted_by lt rs ≡ es

  pub are_sorted : (es rs : List X) → RisesBy lt es → Each (λ e. IsOneOf rs e) es → AreSorted es rs
  are_sorted [] [] rises all = record { few = omega arith; are = λ same. refl }
  are_sorted (e ∷ es) [] rises all = absurd all.0
  are_sorted es (r ∷ rs) rises all = by_look (λ fs h k. are_sorted fs rs h k) (look r es) where
    by_look : ((fs : List X) → RisesBy lt fs → Each (λ e. IsOneOf rs e) fs → AreSorted fs rs) → Found r es ⊎ Each (λ e. e ≢ r) es → AreSorted es (r ∷ rs)
    by_look again (inr off) =
        let rest = again es rises (others r rs es all off) in
        let few' = rest.few in
        record { few = omega arith; are = λ same. absurd (omega arith) }
    by_look again (inl f) =
        let c = cut r f.front f.back (rw f.is at rises) in
        let mem = rw f.is at all in
        let off = each_join (λ e. e ≢ r) f.front f.back (each_weaker (λ e. lt e r ≡ true) (λ e. e ≢ r) (λ e h. apart e r h) f.front c.below)
        (each_weaker (λ e. lt r e ≡ true) (λ e. e ≢ r) (λ e h same. apart r e h (sym same)) f.back c.above) in
        let mem' = each_join (λ e. IsOneOf (r ∷ rs) e) f.front f.back (each_left (λ e. IsOneOf (r ∷ rs) e) f.front (r ∷ f.back) mem) (each_right (λ e. IsOneOf (r ∷ rs) e) f.front (r ∷ f.back) mem).1 in
        let rest = again (f.front ++ f.back) c.rises (others r rs (f.front ++ f.back) mem' off) in
        let one : length es ≡ length f.front + suc (length f.back) = ap (λ (l : List X). length l) f.is ∙ length-append f.front (r ∷ f.back) in
        let two : length (f.front ++ f.back) ≡ length f.front + length f.back = length-append f.front f.back in
        let few' = rest.few in
        record {
          few = omega arith;
          are = λ same. ap (put_by lt r) (rest.are (omega arith)) ∙ put_there r f.front f.back c.below c.above ∙ sym f.is;
        }

-- where the sorted list rises, no two of the list are tied
module _ {X : Type 0} (lt : X → X → Bool) where
  each_put : (P : X → Type 0) (r : X) (xs : List X) → Each P (put_by lt r xs) → P r × Each P xs
  each_put P r [] all = (all.0, tt)
  each_put P r (x ∷ xs) all = by_test (λ h. each_put P r xs h) (lt x r) all where
    by_test : (Each P (put_by lt r xs) → P r × Each P xs) → (t : Bool) → Each P (cond t (x ∷ put_by lt r xs) (r ∷ x ∷ xs)) → P r × Each P (x ∷ xs)
    by_test again true h = let rest = again h.1 in (rest.0, (h.0, rest.1))
    by_test again false h = (h.0, h.1)

  each_sorted : (P : X → Type 0) (rs : List X) → Each P (sorted_by lt rs) → Each P rs
  each_sorted P [] all = tt
  each_sorted P (r ∷ rs) all = let two = each_put P r (sorted_by lt rs) all in (two.0, each_sorted P rs two.1)

  untied_put : (r : X) (xs : List X) → RisesBy lt (put_by lt r xs) → Each (Untied lt r) xs × RisesBy lt xs
  untied_put r [] rises = (tt, tt)
  untied_put r (x ∷ xs) rises = by_test (λ h. untied_put r xs h) (λ h. each_put (λ y. lt x y ≡ true) r xs h) (lt x r) refl rises where
    by_test : (RisesBy lt (put_by lt r xs) → Each (Untied lt r) xs × RisesBy lt xs) → (Each (λ y. lt x y ≡ true) (put_by lt r xs) → (lt x r ≡ true) × Each (λ y. lt x y ≡ true) xs)
        → (t : Bool) → lt x r ≡ t → RisesBy lt (cond t (x ∷ put_by lt r xs) (r ∷ x ∷ xs)) → Each (Untied lt r) (x ∷ xs) × RisesBy lt (x ∷ xs)
    by_test again first true is h = let rest = again h.1 in let one = first h.0 in ((inl is, rest.0), (one.1, rest.1))
    by_test again first false is h = ((inr h.0.0, each_weaker (λ y. lt r y ≡ true) (Untied lt r) (λ y k. inr k) xs h.0.1), h.1)

  pub are_untied : (rs : List X) → RisesBy lt (sorted_by lt rs) → AreUntied lt rs
  are_untied [] rises = tt
  are_untied (r ∷ rs) rises =
      let two = untied_put r (sorted_by lt rs) rises in
      (each_sorted (Untied lt r) rs two.0, are_untied rs two.1)

-- sorting the entries of rows is sorting the rows
module _ {X Y : Type 0} (lt : X → X → Bool) (below : Y → Y → Bool) (f : Y → X) (same : (a b : Y) → lt (f a) (f b) ≡ below a b) where
  pub put_map : (r : Y) (rows : List Y) → put_by lt (f r) (map f rows) ≡ map f (put_by below r rows)
  put_map r [] = refl
  put_map r (x ∷ rows) = by_test (put_map r rows) (below x r) (same x r) where
    by_test : put_by lt (f r) (map f rows) ≡ map f (put_by below r rows) → (t : Bool) → lt (f x) (f r) ≡ t
        → put_by lt (f r) (map f (x ∷ rows)) ≡ map f (cond t (x ∷ put_by below r rows) (r ∷ x ∷ rows))
    by_test rest true is = ap (λ (t : Bool). cond t (f x ∷ put_by lt (f r) (map f rows)) (f r ∷ f x ∷ map f rows)) is ∙ ap (λ (l : List X). f x ∷ l) rest
    by_test rest false is = ap (λ (t : Bool). cond t (f x ∷ put_by lt (f r) (map f rows)) (f r ∷ f x ∷ map f rows)) is

  pub sorted_map : (rows : List Y) → sorted_by lt (map f rows) ≡ map f (sorted_by below rows)
  sorted_map [] = refl
  sorted_map (r ∷ rows) = ap (put_by lt (f r)) (sorted_map rows) ∙ put_map r (sorted_by below rows)

-- The entries in a range, in leaves and in rows.
use Rattle.std.proofs.Common.{◌≡◌, ℕ, zero, suc, ◌<◌, ◌≤◌, Bool, true, false, not, List, [], ◌∷◌, ◌++◌, length, take, drop, get_or, Option, Some, None, cond, refl, ap, sym, subst, ◌∙◌, find, append_assoc}
use Rattle.std.specs.Prelude.{filter, ◌&&◌}
use Rattle.std.specs.Option.{option_map_or}
use Rattle.std.proofs.Math.Seq.{drop-cons}
use Rattle.std.proofs.lemmas.List.{take-append-drop, drop_all}
use Rattle.std.proofs.lemmas.List.Elements.{filter-append}
use Rattle.arrayvec.specs.ArrayVec.{ArrayVec}
use Rattle.pages.specs.Each.{Each}
use Rattle.tree_node.specs.Order.{less, Ascends, IsRank}
use Rattle.tree_node.proofs.OrderLemmas.{less_itself, less-trans, not_less, between_less, either, Each-weaker}
use Rattle.tree_search.specs.declared.range.First.{First}
use Rattle.tree_search.specs.Tree.{Bound, Below}
use Rattle.tree_search.specs.Calls.{first_after}
use Rattle.tree_search.specs.Range.{is_within, IsFirst, within, are_some, Begin, IsBeyond, IsSight, Settled, Open}
use Rattle.tree_search.proofs.RowLemmas.{Each-append}

-- ---- lists of entries

and_false : (b : Bool) → (b && false) ≡ false
and_false true = refl
and_false false = refl

pub none_pass : {X : Type 0} (p : X → Bool) (xs : List X) → Each (λ x. p x ≡ false) xs → filter p xs ≡ []
none_pass p [] none = refl
none_pass p (x ∷ xs) none = ap (λ b. cond b (x ∷ filter p xs) (filter p xs)) none.0 ∙ none_pass p xs none.1

pub head_passes : {X : Type 0} (p : X → Bool) (x : X) (xs : List X) → p x ≡ true → filter p (x ∷ xs) ≡ x ∷ filter p xs
head_passes p x xs h = ap (λ b. cond b (x ∷ filter p xs) (filter p xs)) h

pub head_fails : {X : Type 0} (p : X → Bool) (x : X) (xs : List X) → p x ≡ false → filter p (x ∷ xs) ≡ filter p xs
head_fails p x xs h = ap (λ b. cond b (x ∷ filter p xs) (filter p xs)) h

pub each_filtered : {X : Type 0} (P : X → Type 0) (p : X → Bool) (xs : List X) → Each P xs → Each P (filter p xs)
each_filtered P p [] h = tt
each_filtered P p (x ∷ xs) h = by_test (each_filtered P p xs h.1) (p x)
  where
    by_test : Each P (filter p xs) → (b : Bool) → Each P (cond b (x ∷ filter p xs) (filter p xs))
    by_test rest true = (h.0, rest)
    by_test rest false = rest

module _ (width : ℕ) (from to : List ℕ) where
  pub none_before : (xs : List (List ℕ)) → Each (λ e. less (take width e) from ≡ true) xs → within width from to xs ≡ []
  none_before xs h = none_pass (is_within width from to) xs
      (Each-weaker (λ e. less (take width e) from ≡ true) (λ e. is_within width from to e ≡ false) (λ e b. ap (λ c. not c && not (less to (take width e))) b) xs h)

  pub none_past : (xs : List (List ℕ)) → Each (λ e. less to (take width e) ≡ true) xs → within width from to xs ≡ []
  none_past xs h = none_pass (is_within width from to) xs
      (Each-weaker (λ e. less to (take width e) ≡ true) (λ e. is_within width from to e ≡ false)
      (λ e b. ap (λ c. not (less (take width e) from) && not c) b ∙ and_false (not (less (take width e) from))) xs h)

  -- behind a bound that lies past the range
  pub none_beyond : (s : List ℕ) → less to s ≡ true → (xs : List (List ℕ)) → Each (IsBeyond width (Some s)) xs → within width from to xs ≡ []
  none_beyond s past xs h =
      none_past xs (Each-weaker (IsBeyond width (Some s)) (λ e. less to (take width e) ≡ true) (λ e b. between_less to (take width e) s past b) xs h)

  -- behind an entry that lies past the range
  past_entry : (e : List ℕ) → less to (take width e) ≡ true → (high : Bound) → Below high (take width e)
      → (others : List (List ℕ)) → Each (IsBeyond width high) others → Each (λ x. less to (take width x) ≡ true) others
  past_entry e past None under [] h = tt
  past_entry e past None under (x ∷ others) h = absurd h.0
  past_entry e past (Some high) under others h =
      Each-weaker (IsBeyond width (Some high)) (λ x. less to (take width x) ≡ true)
      (λ x b. between_less to (take width x) high (less-trans to (take width e) high past under) b) others h

  past_rest : (e : List ℕ) (es : List (List ℕ)) → less to (take width e) ≡ true → Each (λ y. less (take width e) (take width y) ≡ true) es → Each (λ x. less to (take width x) ≡ true) es
  past_rest e es past rises = Each-weaker (λ y. less (take width e) (take width y) ≡ true) (λ x. less to (take width x) ≡ true) (λ y b. less-trans to (take width e) (take width y) past b) es rises

  -- nothing of the range from an entry on that lies past it
  none_from : (e : List ℕ) (es : List (List ℕ)) (high : Bound) → Ascends width (e ∷ es) → Below high (take width e) → less to (take width e) ≡ true
      → (others : List (List ℕ)) → Each (IsBeyond width high) others → within width from to ((e ∷ es) ++ others) ≡ []
  none_from e es high rises under past others behind =
      none_past ((e ∷ es) ++ others) (Each-append (λ x. less to (take width x) ≡ true) (e ∷ es) others (past, past_rest e es past rises.0) (past_entry e past high under others behind))

  is_in : (e : List ℕ) → less (take width e) from ≡ false → less to (take width e) ≡ false → is_within width from to e ≡ true
  is_in e a b = ap (λ c. not c && not (less to (take width e))) a ∙ ap not b

  -- ---- a look from a place of a leaf on

  -- of the entries from this place on
  module _ (high : Bound) where
    settled_none : (e : List ℕ) (es : List (List ℕ)) → Ascends width (e ∷ es) → Each (λ x. Below high (take width x)) (e ∷ es) → less to (take width e) ≡ true
        → IsSight width from to high (e ∷ es) (Settled None)
    settled_none e es rises under past others behind = subst (λ (l : List (List ℕ)). Begin l None) (sym (none_from e es high rises under.0 past others behind)) tt

    open_one : (e : List ℕ) (a : ArrayVec ℕ) → a.items ≡ e → less (take width e) from ≡ false → less to (take width e) ≡ false → IsSight width from to high (e ∷ []) (Open (Some a))
    open_one e a is start end = head_passes (is_within width from to) e [] (is_in e start end) ∙ ap (λ (x : List ℕ). x ∷ []) (sym is)

    settled_some : (e n : List ℕ) (es : List (List ℕ)) (first : First) → Ascends width (e ∷ n ∷ es) → Each (λ x. Below high (take width x)) (e ∷ n ∷ es) → first.entry.items ≡ e → first.followed ≡ not (less to (take width n))
        → less (take width e) from ≡ false → less to (take width e) ≡ false → less (take width n) from ≡ false → IsSight width from to high (e ∷ n ∷ es) (Settled (Some first))
    settled_some e n es first rises under is followed start end start' others behind =
        let rest = (n ∷ es) ++ others in
        let whole : within width from to ((e ∷ n ∷ es) ++ others) ≡ e ∷ within width from to rest = head_passes (is_within width from to) e rest (is_in e start end) in
        let tells : are_some (within width from to rest) ≡ not (less to (take width n)) =
        either (less to (take width n)) (are_some (within width from to rest) ≡ not (less to (take width n)))
        (λ past. ap are_some (none_from n es high rises.1 under.1.0 past others behind) ∙ sym (ap not past))
        (λ inside. ap are_some (head_passes (is_within width from to) n (es ++ others) (is_in n start' inside)) ∙ sym (ap not inside)) in
        subst (λ (l : List (List ℕ)). Begin l (Some first)) (sym whole) (is, followed ∙ sym tells)

  -- what comes before the range counts for nothing
  pub behind_front : (front es : List (List ℕ)) → Each (λ e. less (take width e) from ≡ true) front → within width from to (front ++ es) ≡ within width from to es
  behind_front front es h = filter-append (is_within width from to) front es ∙ ap (λ (l : List (List ℕ)). l ++ within width from to es) (none_before front h)

  rises_from : (r : ℕ) (es : List (List ℕ)) → Ascends width es → Ascends width (drop r es)
  rises_from zero es h = h
  rises_from (suc r) [] h = tt
  rises_from (suc r) (x ∷ es) h = rises_from r es h.1

  each_from : (P : List ℕ → Type 0) (r : ℕ) (es : List (List ℕ)) → Each P es → Each P (drop r es)
  each_from P zero es h = h
  each_from P (suc r) [] h = tt
  each_from P (suc r) (x ∷ es) h = each_from P r es h.1

  module _ (high : Bound) (es : List (List ℕ)) (r : ℕ) (rises : Ascends width es) (rank : IsRank width from es r) (under : Each (λ e. Below high (take width e)) es) where
    with_others : (others : List (List ℕ)) → within width from to (es ++ others) ≡ within width from to (drop r es ++ others)
    with_others others =
        ap (λ (l : List (List ℕ)). within width from to (l ++ others)) (sym (take-append-drop r es))
        ∙ ap (within width from to) (append_assoc (take r es) (drop r es) others)
        ∙ behind_front (take r es) (drop r es ++ others) rank.below

    alone : within width from to es ≡ within width from to (drop r es)
    alone = ap (within width from to) (sym (take-append-drop r es)) ∙ behind_front (take r es) (drop r es) rank.below

    pub look_none : length es ≤ r → IsSight width from to high es (Open None)
    look_none past = alone ∙ ap (within width from to) (drop_all r es past)

    module _ (inside : r < length es) where
      here : drop r es ≡ get_or es r [] ∷ drop (suc r) es
      here = drop-cons es r [] inside

      rises_here : Ascends width (get_or es r [] ∷ drop (suc r) es)
      rises_here = subst (Ascends width) here (rises_from r es rises)

      under_here : Each (λ e. Below high (take width e)) (get_or es r [] ∷ drop (suc r) es)
      under_here = subst (Each (λ (e : List ℕ). Below high (take width e))) here (each_from (λ e. Below high (take width e)) r es under)

      start_here : Each (λ e. less (take width e) from ≡ false) (get_or es r [] ∷ drop (suc r) es)
      start_here = subst (Each (λ (e : List ℕ). less (take width e) from ≡ false)) here rank.above

      pub look_past : less to (take width (get_or es r [])) ≡ true → IsSight width from to high es (Settled None)
      look_past past others behind =
          subst (λ (l : List (List ℕ)). Begin l None) (sym (with_others others ∙ ap (λ (l : List (List ℕ)). within width from to (l ++ others)) here))
          (settled_none high (get_or es r []) (drop (suc r) es) rises_here under_here past others behind)

      pub look_last : (a : ArrayVec ℕ) → a.items ≡ get_or es r [] → length es ≤ suc r → less to (take width (get_or es r [])) ≡ false → IsSight width from to high es (Open (Some a))
      look_last a is last end =
          alone ∙ ap (within width from to) (here ∙ ap (λ (l : List (List ℕ)). get_or es r [] ∷ l) (drop_all (suc r) es last))
          ∙ open_one high (get_or es r []) a is start_here.0 end

      pub look_two : (first : First) → first.entry.items ≡ get_or es r [] → suc r < length es → less to (take width (get_or es r [])) ≡ false → first.followed ≡ not (less to (take width (get_or es (suc r) [])))
          → IsSight width from to high es (Settled (Some first))
      look_two first is more end followed others behind =
          let next : drop (suc r) es ≡ get_or es (suc r) [] ∷ drop (suc (suc r)) es = drop-cons es (suc r) [] more in
          let both : drop r es ≡ get_or es r [] ∷ get_or es (suc r) [] ∷ drop (suc (suc r)) es = here ∙ ap (λ (l : List (List ℕ)). get_or es r [] ∷ l) next in
          let rises_both = subst (Ascends width) both (rises_from r es rises) in
          let under_both = subst (Each (λ (e : List ℕ). Below high (take width e))) both (each_from (λ e. Below high (take width e)) r es under) in
          let start_both = subst (Each (λ (e : List ℕ). less (take width e) from ≡ false)) both rank.above in
          subst (λ (l : List (List ℕ)). Begin l (Some first)) (sym (with_others others ∙ ap (λ (l : List (List ℕ)). within width from to (l ++ others)) both))
          (settled_some high (get_or es r []) (get_or es (suc r) []) (drop (suc (suc r)) es) first rises_both under_both is followed start_both.0 end start_both.1.0 others behind)

-- ---- the answer, in the words of look-ups

first_of_two : {X : Type 0} (a b : X) (ls ms : List X) → (a ∷ ls) ≡ (b ∷ ms) → a ≡ b
first_of_two a b ls ms e = cc

rest_of_two : {X : Type 0} (a b : X) (ls ms : List X) → (a ∷ ls) ≡ (b ∷ ms) → ls ≡ ms
rest_of_two a b ls ms e = cc

none_is_some : {X : Type 0} (a : X) (ls : List X) → (a ∷ ls) ≡ [] → ⊥
none_is_some a ls e = cc

found_first : {X : Type 0} (p : X → Bool) (xs ys : List X) (x : X) → filter p xs ≡ x ∷ ys → find p xs ≡ Some x
found_first p [] ys x h = absurd (cc)
found_first p (z ∷ xs) ys x h =
    either (p z) (find p (z ∷ xs) ≡ Some x)
    (λ yes. ap (λ b. cond b (Some z) (find p xs)) yes ∙ ap Some (first_of_two z x (filter p xs) ys (sym (head_passes p z xs yes) ∙ h)))
    (λ no. ap (λ b. cond b (Some z) (find p xs)) no ∙ found_first p xs ys x (sym (head_fails p z xs no) ∙ h))

found_nothing : {X : Type 0} (p : X → Bool) (xs : List X) → filter p xs ≡ [] → find p xs ≡ None
found_nothing p [] h = refl
found_nothing p (z ∷ xs) h =
    either (p z) (find p (z ∷ xs) ≡ None)
    (λ yes. absurd (none_is_some z (filter p xs) (sym (head_passes p z xs yes) ∙ h)))
    (λ no. ap (λ b. cond b (Some z) (find p xs)) no ∙ found_nothing p xs (sym (head_fails p z xs no) ∙ h))

module _ (width : ℕ) (from to : List ℕ) where
  -- behind an entry that is in the range the next one tells whether others are
  next_tells : (x : List ℕ) (xs : List (List ℕ)) → less (take width x) from ≡ false → Each (λ y. less (take width x) (take width y) ≡ true) xs → Ascends width xs
      → are_some (within width from to xs) ≡ option_map_or (is_within width from to) (first_after width (take width x) xs) false
  next_tells x [] start above rises = refl
  next_tells x (y ∷ ys) start above rises =
      let first : first_after width (take width x) (y ∷ ys) ≡ Some y = ap (λ b. cond b (Some y) (first_after width (take width x) ys)) above.0 in
      let start' : less (take width y) from ≡ false = not_less (take width x) (take width y) from above.0 start in
      let tells : are_some (within width from to (y ∷ ys)) ≡ is_within width from to y =
      either (less to (take width y)) (are_some (within width from to (y ∷ ys)) ≡ is_within width from to y)
      (λ past. ap are_some (none_past width from to (y ∷ ys) (past, past_rest width from to y ys past rises.0))
      ∙ sym (ap (λ c. not (less (take width y) from) && not c) past ∙ and_false (not (less (take width y) from))))
      (λ inside. ap are_some (head_passes (is_within width from to) y ys (is_in width from to y start' inside)) ∙ sym (is_in width from to y start' inside)) in
      tells ∙ sym (ap (λ (o : Option (List ℕ)). option_map_or (is_within width from to) o false) first)

  starts : (x : List ℕ) → is_within width from to x ≡ true → less (take width x) from ≡ false
  starts x h =
      either (less (take width x) from) (less (take width x) from ≡ false)
      (λ yes. absurd (differ h (ap (λ c. not c && not (less to (take width x))) yes)))
      (λ no. no)
    where
      differ : {b : Bool} → b ≡ true → b ≡ false → ⊥
      differ e k = let both : true ≡ false = sym e ∙ k in cc

  followed_by : (e : List ℕ) (es xs : List (List ℕ)) → Ascends width xs → within width from to xs ≡ e ∷ es
      → are_some es ≡ option_map_or (is_within width from to) (first_after width (take width e) xs) false
  followed_by e es [] rises h = absurd (cc)
  followed_by e es (x ∷ xs) rises h =
      either (is_within width from to x) (are_some es ≡ option_map_or (is_within width from to) (first_after width (take width e) (x ∷ xs)) false)
      (λ yes.
      let split = sym (head_passes (is_within width from to) x xs yes) ∙ h in
      let is : x ≡ e = first_of_two x e (within width from to xs) es split in
      let rest : within width from to xs ≡ es = rest_of_two x e (within width from to xs) es split in
      let itself : less (take width e) (take width x) ≡ false = ap (λ (z : List ℕ). less (take width e) (take width z)) is ∙ less_itself (take width e) in
      ap are_some (sym rest) ∙ next_tells x xs (starts x yes) rises.0 rises.1
      ∙ ap (λ (z : List ℕ). option_map_or (is_within width from to) (first_after width (take width z) xs) false) is
      ∙ sym (ap (λ b. option_map_or (is_within width from to) (cond b (Some x) (first_after width (take width e) xs)) false) itself))
      (λ no.
      let rest : within width from to xs ≡ e ∷ es = sym (head_fails (is_within width from to) x xs no) ∙ h in
      let under : less (take width x) (take width e) ≡ true =
      (subst (Each (λ (y : List ℕ). less (take width x) (take width y) ≡ true)) rest (each_filtered (λ (y : List ℕ). less (take width x) (take width y) ≡ true) (is_within width from to) xs rises.0)).0 in
      let before : less (take width e) (take width x) ≡ false = not_less (take width x) (take width e) (take width x) under (less_itself (take width x)) in
      followed_by e es xs rises.1 rest
      ∙ sym (ap (λ b. option_map_or (is_within width from to) (cond b (Some x) (first_after width (take width e) xs)) false) before))

  begun : (es ws : List (List ℕ)) (found : Option First) → Ascends width es → within width from to es ≡ ws → Begin ws found → IsFirst width from to es found
  begun es [] None rises is h = found_nothing (is_within width from to) es is
  begun es [] (Some first) rises is h = absurd h
  begun es (w ∷ ws) None rises is h = absurd h
  begun es (w ∷ ws) (Some first) rises is h = (
    found_first (is_within width from to) es ws w is ∙ ap Some (sym h.0),
    h.1 ∙ followed_by w ws es rises is ∙ ap (λ (e : List ℕ). option_map_or (is_within width from to) (first_after width (take width e) es) false) (sym h.0),
  )

  pub is_first : (es : List (List ℕ)) (found : Option First) → Ascends width es → Begin (within width from to es) found → IsFirst width from to es found
  is_first es found rises h = begun es (within width from to es) found rises refl h

-- A list of entries in order with one more.
use Rattle.std.proofs.Common.{◌≡◌, ℕ, suc, ◌+◌, Bool, true, false, List, [], ◌∷◌, ◌++◌, length, take, drop, Some, None, cond, refl, ap, sym, subst, ◌∙◌, arith, find, flat_map}
use Rattle.std.specs.List.{insert}
use Rattle.std.specs.Str.{bytes_eq}
use Rattle.std.proofs.lemmas.List.{take-append-drop}
use Rattle.std.proofs.lemmas.Grind.{flat_map-append}
use Rattle.std.proofs.lemmas.Slice.Eq.{bytes_eq-Decides}
use Rattle.pages.specs.Each.{Each}
use Rattle.tree_node.specs.Order.{less, Ascends, IsRank}
use Rattle.tree_node.proofs.OrderLemmas.{Each-weaker, less-trans, less_itself, either, compared, not_less}
use Rattle.bplus_tree.specs.Edits.{with_entry}
use Rattle.tree_search.specs.Calls.{entry_of}
use Rattle.tree_search.proofs.DescentLemmas.{each_drop}

-- ---- where the entry goes

pub with_entry_behind : (width : ℕ) (e : List ℕ) (xs ys : List (List ℕ)) → Each (λ x. less (take width x) (take width e) ≡ true) xs
    → with_entry width e (xs ++ ys) ≡ xs ++ with_entry width e ys
with_entry_behind width e [] ys h = refl
with_entry_behind width e (x ∷ xs) ys h =
    ap (λ b. cond b (x ∷ with_entry width e (xs ++ ys)) (e ∷ x ∷ (xs ++ ys))) h.0 ∙ ap (λ (l : List (List ℕ)). x ∷ l) (with_entry_behind width e xs ys h.1)

before_all : (width : ℕ) (e : List ℕ) (ys : List (List ℕ)) → Each (λ y. less (take width e) (take width y) ≡ true) ys → with_entry width e ys ≡ e ∷ ys
before_all width e [] h = refl
before_all width e (y ∷ ys) h =
    ap (λ b. cond b (y ∷ with_entry width e ys) (e ∷ y ∷ ys)) (not_less (take width e) (take width y) (take width e) h.0 (less_itself (take width e)))

chosen : (b : Bool) (x : List ℕ) (u v w z : List (List ℕ)) → u ≡ w → v ≡ z → cond b (x ∷ u) v ≡ cond b (x ∷ w) z
chosen b x u v w z p q = ap (λ (l : List (List ℕ)). cond b (x ∷ l) v) p ∙ ap (λ (l : List (List ℕ)). cond b (x ∷ w) l) q

out_of : (b : Bool) (x : List ℕ) (u v ys : List (List ℕ)) → cond b (x ∷ u) v ++ ys ≡ cond b (x ∷ (u ++ ys)) (v ++ ys)
out_of true x u v ys = refl
out_of false x u v ys = refl

pub with_entry_before : (width : ℕ) (e : List ℕ) (xs ys : List (List ℕ)) → Each (λ y. less (take width e) (take width y) ≡ true) ys
    → with_entry width e (xs ++ ys) ≡ with_entry width e xs ++ ys
with_entry_before width e [] ys h = before_all width e ys h
with_entry_before width e (x ∷ xs) ys h =
    chosen (less (take width x) (take width e)) x (with_entry width e (xs ++ ys)) (e ∷ x ∷ (xs ++ ys)) (with_entry width e xs ++ ys) (e ∷ x ∷ (xs ++ ys)) (with_entry_before width e xs ys h) refl
    ∙ sym (out_of (less (take width x) (take width e)) x (with_entry width e xs) (e ∷ x ∷ xs) ys)

-- the entry goes below the member of a row at which its key belongs; in the place of that member stand others
pub entry_within : {X : Type 0} (width : ℕ) (e : List ℕ) (f : X → List (List ℕ)) (front : List X) (here : X) (new back : List X)
    → Each (λ x. less (take width x) (take width e) ≡ true) (flat_map f front) → Each (λ x. less (take width e) (take width x) ≡ true) (flat_map f back)
    → flat_map f new ≡ with_entry width e (f here) → flat_map f (front ++ (new ++ back)) ≡ with_entry width e (flat_map f (front ++ here ∷ back))
entry_within width e f front here new back low high is =
    flat_map-append f front (new ++ back)
    ∙ ap (λ (l : List (List ℕ)). flat_map f front ++ l) (flat_map-append f new back)
    ∙ ap (λ (l : List (List ℕ)). flat_map f front ++ (l ++ flat_map f back)) is
    ∙ ap (λ (l : List (List ℕ)). flat_map f front ++ l) (sym (with_entry_before width e (f here) (flat_map f back) high))
    ∙ sym (with_entry_behind width e (flat_map f front) (f here ++ flat_map f back) low)
    ∙ ap (with_entry width e) (sym (flat_map-append f front (here ∷ back)))

-- ---- order, and one more

none_each : {X : Type 0} (p : X → Bool) (xs : List X) → find p xs ≡ None → Each (λ x. p x ≡ false) xs
none_each p [] h = tt
none_each p (x ∷ xs) h =
    either (p x) (Each (λ y. p y ≡ false) (x ∷ xs))
    (λ yes. absurd (let no : Some x ≡ None = sym (ap (λ b. cond b (Some x) (find p xs)) yes) ∙ h in cc no))
    (λ no. (no, none_each p xs (sym (ap (λ b. cond b (Some x) (find p xs)) no) ∙ h)))

-- neither below a key nor that key: above it
above_from_apart : (x key : List ℕ) → less x key ≡ false → bytes_eq x key ≡ false → less key x ≡ true
above_from_apart x key h k =
    compared x key (less key x ≡ true) (λ below. absurd (cc (below, h)))
    (λ same. absurd (let no : bytes_eq x key ≡ true = (bytes_eq-Decides x key).1 same in cc (no, k))) (λ above. above)

module _ (width : ℕ) (e : List ℕ) where
  pub each_with : (P : List ℕ → Type 0) (es : List (List ℕ)) → P e → Each P es → Each P (with_entry width e es)
  each_with P [] here all = (here, tt)
  each_with P (x ∷ xs) here all =
      either (less (take width x) (take width e)) (Each P (with_entry width e (x ∷ xs)))
      (λ yes. subst (λ b. Each P (cond b (x ∷ with_entry width e xs) (e ∷ x ∷ xs))) (sym yes) (all.0, each_with P xs here all.1))
      (λ no. subst (λ b. Each P (cond b (x ∷ with_entry width e xs) (e ∷ x ∷ xs))) (sym no) (here, all))

  pub one_more : (es : List (List ℕ)) → length (with_entry width e es) ≡ length es + 1
  one_more [] = refl
  one_more (x ∷ xs) =
      either (less (take width x) (take width e)) (length (with_entry width e (x ∷ xs)) ≡ length (x ∷ xs) + 1)
      (λ yes.
      let here : length (with_entry width e (x ∷ xs)) ≡ suc (length (with_entry width e xs)) = ap (λ b. length (cond b (x ∷ with_entry width e xs) (e ∷ x ∷ xs))) yes in
      let rec = one_more xs in omega arith)
      (λ no. ap (λ b. length (cond b (x ∷ with_entry width e xs) (e ∷ x ∷ xs))) no ∙ (omega arith))

  rises_with : (es : List (List ℕ)) → Ascends width es → Each (λ x. bytes_eq (take width x) (take width e) ≡ false) es → Ascends width (with_entry width e es)
  rises_with [] rises apart = (tt, tt)
  rises_with (x ∷ xs) rises apart =
      either (less (take width x) (take width e)) (Ascends width (with_entry width e (x ∷ xs)))
      (λ yes. subst (λ b. Ascends width (cond b (x ∷ with_entry width e xs) (e ∷ x ∷ xs))) (sym yes)
      (each_with (λ y. less (take width x) (take width y) ≡ true) xs yes rises.0, rises_with xs rises.1 apart.1))
      (λ no. let above = above_from_apart (take width x) (take width e) no apart.0 in
      subst (λ b. Ascends width (cond b (x ∷ with_entry width e xs) (e ∷ x ∷ xs))) (sym no)
      ((above, Each-weaker (λ y. less (take width x) (take width y) ≡ true) (λ y. less (take width e) (take width y) ≡ true) (λ y h. less-trans (take width e) (take width x) (take width y) above h) xs rises.0), rises))

  -- the keys still rise
  pub with_entry_rises : (es : List (List ℕ)) → Ascends width es → entry_of width (take width e) es ≡ None → Ascends width (with_entry width e es)
  with_entry_rises es rises none = rises_with es rises (none_each (λ x. bytes_eq (take width x) (take width e)) es none)

  zip_above : (es : List (List ℕ)) → Each (λ x. less (take width x) (take width e) ≡ false) es → Each (λ x. bytes_eq (take width x) (take width e) ≡ false) es
      → Each (λ x. less (take width e) (take width x) ≡ true) es
  zip_above [] h k = tt
  zip_above (x ∷ xs) h k = (above_from_apart (take width x) (take width e) h.0 k.0, zip_above xs h.1 k.1)

  -- an insert at the rank of the key
  pub insert_is_with : (es : List (List ℕ)) (r : ℕ) → IsRank width (take width e) es r → entry_of width (take width e) es ≡ None → insert es r e ≡ with_entry width e es
  insert_is_with es r rank none =
      let apart = none_each (λ x. bytes_eq (take width x) (take width e)) es none in
      let above = zip_above (drop r es) rank.above (each_drop (λ x. bytes_eq (take width x) (take width e) ≡ false) r es apart) in
      sym (ap (with_entry width e) (sym (take-append-drop r es)) ∙ with_entry_behind width e (take r es) (drop r es) rank.below ∙ ap (λ (l : List (List ℕ)). take r es ++ l) (before_all width e (drop r es) above))

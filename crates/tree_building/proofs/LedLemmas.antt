-- A tree whose separators are the first keys behind them is in order where its entries are.
use Rattle.std.proofs.Common.{◌≡◌, ℕ, zero, suc, ◌≤◌, true, false, List, [], ◌∷◌, ◌++◌, length, take, drop, get_or, map, Some, None, ap, sym, subst, ◌∙◌, arith, flat_map}
use Rattle.std.proofs.lemmas.List.{length-append}
use Rattle.tree_node.specs.declared.shape.NodeShape.{NodeShape}
use Rattle.tree_node.specs.Order.{less, Ascends}
use Rattle.tree_node.proofs.OrderLemmas.{less_itself, less-trans, not_less, compared, Each-weaker, Each-get_or}
use Rattle.tree_node.specs.Fill.{least_entries}
use Rattle.pages.specs.Each.{Each}
use Rattle.tree_search.specs.Tree.{TreeOf, entries_of, Bound, NotBelow, Above, IsRow, IsOrdered}
use Rattle.tree_search.specs.Calls.{size_of, IsHalfFull, IsRooted}
use Rattle.tree_search.proofs.RowLemmas.{each_left, each_right, Inside}
use Rattle.tree_search.proofs.DescentLemmas.{whole_keys}
use Rattle.tree_search.proofs.SearchLemmas.{full_some}
use Rattle.bplus_tree.proofs.PageLemmas.{each_both}
use Rattle.bplus_tree.proofs.RemoveLemmas.{full_rooted}
use Rattle.tree_building.specs.Level.{lead_of, IsLed, IsBelow}

abbrev Comes : ℕ → List ℕ → List ℕ → Type 0
Comes width x y = less (take width x) (take width y) ≡ true

ascends_left : (width : ℕ) (xs ys : List (List ℕ)) → Ascends width (xs ++ ys) → Ascends width xs
ascends_left width [] ys h = tt
ascends_left width (x ∷ xs) ys h = (each_left (Comes width x) xs ys h.0, ascends_left width xs ys h.1)

ascends_right : (width : ℕ) (xs ys : List (List ℕ)) → Ascends width (xs ++ ys) → Ascends width ys
ascends_right width [] ys h = h
ascends_right width (x ∷ xs) ys h = ascends_right width xs ys h.1

ascends_across : (width : ℕ) (xs ys : List (List ℕ)) → Ascends width (xs ++ ys) → Each (λ x. Each (Comes width x) ys) xs
ascends_across width [] ys h = tt
ascends_across width (x ∷ xs) ys h = (each_right (Comes width x) xs ys h.0, ascends_across width xs ys h.1)

-- none comes before the first one
none_before : (width : ℕ) (xs ys : List (List ℕ)) → 1 ≤ length xs → Ascends width (xs ++ ys)
    → Each (λ e. less (take width e) (take width (get_or xs 0 [])) ≡ false) (xs ++ ys)
none_before width [] ys some h = absurd (omega arith)
none_before width (x ∷ xs) ys some h = (
  less_itself (take width x),
  Each-weaker (Comes width x) (λ e. less (take width e) (take width x) ≡ false)
      (λ y k. not_less (take width x) (take width y) (take width x) k (less_itself (take width x))) (xs ++ ys) h.0,
)

above_from : (low : Bound) (x s : List ℕ) → NotBelow low x → less x s ≡ true → Above low s
above_from None x s a b = tt
above_from (Some l) x s a b =
    compared l x (less l s ≡ true) (λ yes. less-trans l x s yes b) (λ same. subst (λ (z : List ℕ). less z s ≡ true) (sym same) b) (λ no. cc (no, a))

-- ---- trees that can stand below a root have entries

pub below_kids : (shape : NodeShape) (h : ℕ) (kids : List (TreeOf h)) → Each (λ c. (least_entries shape h ≤ size_of h c) × IsHalfFull shape h c) kids
    → Each (IsLed shape.width h) kids → Each (IsBelow shape h) kids
below_kids shape h kids filled led =
    each_both (λ c. (least_entries shape h ≤ size_of h c) × IsHalfFull shape h c) (IsLed shape.width h) (IsBelow shape h)
    (λ c a b. record { large = a.0; filled = a.1; led = b }) kids filled led

some_kids : (width h : ℕ) (ss : List (List ℕ)) (kids : List (TreeOf h)) → 1 ≤ length ss → ss ≡ map (lead_of width h) (drop 1 kids) → 1 ≤ length kids
some_kids width h ss [] some e = let none : length ss ≡ 0 = ap length e in absurd (omega arith)
some_kids width h ss (k ∷ ks) some e = omega arith

some_flat : (h : ℕ) (kids : List (TreeOf h)) → 1 ≤ length kids → Each (λ c. 1 ≤ length (entries_of h c)) kids → 1 ≤ length (flat_map (entries_of h) kids)
some_flat h [] some each = absurd (omega arith)
some_flat h (k ∷ ks) some each = let one = each.0 in omega (arith, length-append (entries_of h k) (flat_map (entries_of h) ks))

pub some_entries : (shape : NodeShape) (h : ℕ) (t : TreeOf h) → IsBelow shape h t → 1 ≤ length (entries_of h t)
some_entries shape zero t b = full_some shape zero (length t.1) b.large
some_entries shape (suc h) t b =
    some_flat h t.2 (some_kids shape.width h t.1 t.2 (full_some shape (suc h) (length t.1) b.large) b.led.0)
    (Each-weaker (IsBelow shape h) (λ c. 1 ≤ length (entries_of h c)) (some_entries shape h) t.2 (below_kids shape h t.2 b.filled b.led.1))

-- ---- trees side by side

module _ (width h : ℕ) (Good : TreeOf h → Type 0)
    (ordered : (low high : Bound) (t : TreeOf h) → Good t → Ascends width (entries_of h t) → Each (Inside width low high) (entries_of h t) → IsOrdered width h low high t)
    (some : (t : TreeOf h) → Good t → 1 ≤ length (entries_of h t)) where
  row : (low high : Bound) (k : TreeOf h) (ks : List (TreeOf h)) → Each Good (k ∷ ks) → Ascends width (flat_map (entries_of h) (k ∷ ks))
      → Each (Inside width low high) (flat_map (entries_of h) (k ∷ ks)) → IsRow (IsOrdered width h) low (map (lead_of width h) ks) (k ∷ ks) high
  row low high k [] good rises inside =
      ordered low high k good.0 (ascends_left width (entries_of h k) [] rises) (each_left (Inside width low high) (entries_of h k) [] inside)
  row low high k (j ∷ js) good rises inside =
      let es = entries_of h k in
      let fs = flat_map (entries_of h) (j ∷ js) in
      let rest = flat_map (entries_of h) js in
      let s = lead_of width h j in
      let many = some j good.1.0 in
      let later = ascends_right width es fs rises in
      let ours = each_left (Inside width low high) es fs inside in
      let theirs = each_right (Inside width low high) es fs inside in
      let before : Each (λ e. less (take width e) s ≡ true) es =
      Each-weaker (λ x. Each (Comes width x) fs) (λ e. less (take width e) s ≡ true)
      (λ x c. Each-get_or (Comes width x) (entries_of h j) 0 [] many (each_left (Comes width x) (entries_of h j) rest c)) es (ascends_across width es fs rises) in
      let here : Each (Inside width low (Some s)) es =
      each_both (Inside width low high) (λ e. less (take width e) s ≡ true) (Inside width low (Some s)) (λ e a b. (a.0, b)) es ours before in
      let there : Each (Inside width (Some s) high) fs =
      each_both (Inside width low high) (λ e. less (take width e) s ≡ false) (Inside width (Some s) high) (λ e a b. (b, a.1)) fs theirs
      (none_before width (entries_of h j) rest many later) in
      let first = Each-get_or (Inside width low (Some s)) es 0 [] (some k good.0) here in
      let next = Each-get_or (Inside width (Some s) high) (entries_of h j) 0 [] many (each_left (Inside width (Some s) high) (entries_of h j) rest there) in
      (above_from low (take width (get_or es 0 [])) s first.0 first.1, next.1, ordered low (Some s) k good.0 (ascends_left width es fs rises) here, row (Some s) high j js good.1 later there)

  each_lead : (P : List ℕ → Type 0) (ts : List (TreeOf h)) → Each Good ts → Each (λ e. P (take width e)) (flat_map (entries_of h) ts) → Each P (map (lead_of width h) ts)
  each_lead P [] good all = tt
  each_lead P (t ∷ ts) good all =
      let rest = flat_map (entries_of h) ts in (
        Each-get_or (λ e. P (take width e)) (entries_of h t) 0 [] (some t good.0) (each_left (λ e. P (take width e)) (entries_of h t) rest all),
        each_lead P ts good.1 (each_right (λ e. P (take width e)) (entries_of h t) rest all),
      )

  leads_rise : (ts : List (TreeOf h)) → Each Good ts → Ascends width (flat_map (entries_of h) ts) → Ascends width (map (lead_of width h) ts)
  leads_rise [] good rises = tt
  leads_rise (t ∷ ts) good rises =
      let es = entries_of h t in
      let rest = flat_map (entries_of h) ts in
      let e = get_or es 0 [] in
      let behind = Each-get_or (λ x. Each (Comes width x) rest) es 0 [] (some t good.0) (ascends_across width es rest rises) in
      let twice : (x : List ℕ) → take width (take width x) ≡ take width x = λ x. (whole_keys width (x ∷ [])).0 in (
        each_lead (λ y. less (take width (take width e)) (take width y) ≡ true) ts good.1
            (Each-weaker (Comes width e) (λ y. less (take width (take width e)) (take width (take width y)) ≡ true)
            (λ y k. ap (λ (z : List ℕ). less z (take width (take width y))) (twice e) ∙ ap (λ (z : List ℕ). less (take width e) z) (twice y) ∙ k) rest behind),
        leads_rise ts good.1 (ascends_right width es rest rises),
      )

  inner : (low high : Bound) (ss : List (List ℕ)) (kids : List (TreeOf h)) → 1 ≤ length kids → Each Good kids → ss ≡ map (lead_of width h) (drop 1 kids)
      → Ascends width (flat_map (entries_of h) kids) → Each (Inside width low high) (flat_map (entries_of h) kids)
      → Ascends width ss × IsRow (IsOrdered width h) low ss kids high
  inner low high ss [] many good e rises inside = absurd (omega arith)
  inner low high ss (k ∷ ks) many good e rises inside =
      subst (λ (l : List (List ℕ)). Ascends width l × IsRow (IsOrdered width h) low l (k ∷ ks) high) (sym e)
      ((leads_rise (k ∷ ks) good rises).1, row low high k ks good rises inside)

pub led_ordered : (shape : NodeShape) (h : ℕ) (low high : Bound) (t : TreeOf h) → IsHalfFull shape h t → IsLed shape.width h t → IsRooted h t
    → Ascends shape.width (entries_of h t) → Each (Inside shape.width low high) (entries_of h t) → IsOrdered shape.width h low high t
led_ordered shape zero low high t filled led rooted rises inside = (rises, inside)
led_ordered shape (suc h) low high t filled led rooted rises inside =
    inner shape.width h (IsBelow shape h) (λ low high t b r i. led_ordered shape h low high t b.filled b.led (full_rooted shape h t b.large) r i)
    (some_entries shape h) low high t.1 t.2 (some_kids shape.width h t.1 t.2 rooted led.0) (below_kids shape h t.2 filled led.1) led.0 rises inside

-- a root's entries have no bounds
pub no_bounds : (width : ℕ) (es : List (List ℕ)) → Each (Inside width None None) es
no_bounds width [] = tt
no_bounds width (e ∷ es) = ((tt, tt), no_bounds width es)

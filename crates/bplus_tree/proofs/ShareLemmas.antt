-- Two trees side by side: they become one, or share what they have.
use Rattle.std.proofs.Common.{◌≡◌, ℕ, zero, suc, ◌+◌, ◌<◌, ◌≤◌, true, false, List, [], ◌∷◌, ◌++◌, length, take, drop, get_or, map, Some, None, refl, ap, sym, subst, ◌∙◌, arith, flat_map, append_assoc, add-one}
use Rattle.std.proofs.lemmas.List.{map-append, length-append, take_at, drop_at, get_or_at, take-map, drop-map, take-append-drop}
use Rattle.std.proofs.lemmas.Grind.{flat_map-append}
use Rattle.tree_node.specs.declared.shape.NodeShape.{NodeShape}
use Rattle.pages.specs.Each.{Each}
use Rattle.tree_node.specs.Order.{less, Ascends}
use Rattle.tree_node.specs.Leaf.{leaf_entries}
use Rattle.tree_node.specs.Inner.{separators, children}
use Rattle.tree_node.proofs.InnerLemmas.{length_separators, length_children}
use Rattle.tree_node.proofs.OrderLemmas.{Each-weaker, less-trans, less_itself, not_less, compared}
use Rattle.pages.specs.PageMap.{PageMap}
use Rattle.tree_node.specs.Fill.{least_entries}
use Rattle.tree_search.specs.Tree.{TreeOf, page_of, entries_of, pages_of, pages_below, Bound, NotBelow, Above, Below, IsRow, IsOrdered}
use Rattle.tree_search.specs.Calls.{size_of, IsHalfFull, IsTree}
use Rattle.tree_search.specs.Stored.{Holds, IsLeafAt, IsInnerAt}
use Rattle.tree_node.specs.Balance.{LeavesJoined, LeavesShared, InnersJoined, InnersShared, AreJoined, AreShared}
use Rattle.tree_search.proofs.RowLemmas.{Inside, Each-append, NotBelow-trans, above_not_below, Below-trans, row_split, row_rises}
use Rattle.tree_search.proofs.RowLemmas.{each_left, each_right, ascends_join}
use Rattle.bplus_tree.proofs.PageLemmas.{each_both, rows_still}
use Rattle.tree_search.proofs.DescentLemmas.{node_whole, each_take, each_drop}

-- ---- lists of entries

ascends_left : (width : ℕ) (xs ys : List (List ℕ)) → Ascends width (xs ++ ys) → Ascends width xs
ascends_left width [] ys h = tt
ascends_left width (x ∷ xs) ys h = (each_left (λ y. less (take width x) (take width y) ≡ true) xs ys h.0, ascends_left width xs ys h.1)

ascends_right : (width : ℕ) (xs ys : List (List ℕ)) → Ascends width (xs ++ ys) → Ascends width ys
ascends_right width [] ys h = h
ascends_right width (x ∷ xs) ys h = ascends_right width xs ys h.1

-- those in front are below the first one behind
ascends_across : (width : ℕ) (xs : List (List ℕ)) (y : List ℕ) (ys : List (List ℕ)) → Ascends width (xs ++ y ∷ ys) → Each (λ x. less (take width x) (take width y) ≡ true) xs
ascends_across width [] y ys h = tt
ascends_across width (x ∷ xs) y ys h = ((each_right (λ z. less (take width x) (take width z) ≡ true) xs (y ∷ ys) h.0).0, ascends_across width xs y ys h.1)

low_then_above : (low : Bound) (x y : List ℕ) → NotBelow low x → less x y ≡ true → Above low y
low_then_above None x y h k = tt
low_then_above (Some low) x y h k =
    compared low x (less low y ≡ true) (λ below. less-trans low x y below k)
    (λ same. ap (λ (v : List ℕ). less v y) same ∙ k) (λ above. absurd (cc (above, h)))

-- the key of the first entry behind parts the entries
pub record Parts (width : ℕ) (from to : Bound) (key : List ℕ) (xs ys : List (List ℕ)) : Type 0 where
  pub under : Above from key
  pub over : Below to key
  pub left : Ascends width xs × Each (Inside width from (Some key)) xs
  pub right : Ascends width ys × Each (Inside width (Some key) to) ys

pub parts : (width : ℕ) (from to : Bound) (xs ys : List (List ℕ)) → 1 ≤ length xs → 1 ≤ length ys → Ascends width (xs ++ ys) → Each (Inside width from to) (xs ++ ys)
    → Parts width from to (take width (get_or ys 0 [])) xs ys
parts width from to [] ys some some' rises all = absurd (omega arith)
parts width from to (x ∷ xs) [] some some' rises all = absurd (omega arith)
parts width from to (x ∷ xs) (y ∷ ys) some some' rises all =
    let across = ascends_across width (x ∷ xs) y ys rises in
    let left = each_left (Inside width from to) (x ∷ xs) (y ∷ ys) all in
    let right = each_right (Inside width from to) (x ∷ xs) (y ∷ ys) all in
    let behind = ascends_right width (x ∷ xs) (y ∷ ys) rises in
    record {
      under = low_then_above from (take width x) (take width y) left.0.0 across.0;
      over = right.0.1;
      left = (
        ascends_left width (x ∷ xs) (y ∷ ys) rises,
        each_both (Inside width from to) (λ e. less (take width e) (take width y) ≡ true) (Inside width from (Some (take width y))) (λ e a b. (a.0, b)) (x ∷ xs) left across,
      );
      right = (
        behind,
        (
          (less_itself (take width y), right.0.1),
          each_both (λ z. less (take width y) (take width z) ≡ true) (Inside width from to) (Inside width (Some (take width y)) to)
              (λ z a b. (not_less (take width y) (take width z) (take width y) a (less_itself (take width y)), b.1)) ys behind.0 right.1,
        ),
      );
    }

-- ---- rows

pub row_join : {X : Type 0} (P : Bound → Bound → X → Type 0) (low : Bound) (ss : List (List ℕ)) (xs : List X) (s : List ℕ) (ts : List (List ℕ)) (ys : List X) (high : Bound)
    → Above low s → Below high s → IsRow P low ss xs (Some s) → IsRow P (Some s) ts ys high → IsRow P low (ss ++ s ∷ ts) (xs ++ ys) high
row_join P low [] [] s ts ys high under over row row' = absurd row
row_join P low [] (x ∷ y ∷ xs) s ts ys high under over row row' = absurd row
row_join P low [] (x ∷ []) s ts ys high under over row row' = (under, over, row, row')
row_join P low (t ∷ ss) [] s ts ys high under over row row' = absurd row
row_join P low (t ∷ ss) (x ∷ xs) s ts ys high under over row row' =
    (row.0, Below-trans high s t over row.1, row.2, row_join P (Some t) ss xs s ts ys high row.1 over row.3 row')

-- ---- trees

pub record OneTree (shape : NodeShape) (after : PageMap) (k : ℕ) (from to : Bound) (left right : TreeOf k) : Type 0 where
  pub tree : TreeOf k
  pub stands : IsTree shape after k (page_of k left) from to tree
  pub has : entries_of k tree ≡ entries_of k left ++ entries_of k right
  pub pages : pages_of k tree ≡ page_of k left ∷ (pages_below k left ++ pages_below k right)
  pub large : size_of k left + size_of k right ≤ size_of k tree
  pub filled : IsHalfFull shape k tree

pub record TwoTrees (shape : NodeShape) (after : PageMap) (k : ℕ) (from to : Bound) (left right : TreeOf k) (key : List ℕ) : Type 0 where
  pub lower : TreeOf k
  pub upper : TreeOf k
  pub under : Above from key
  pub over : Below to key
  pub lower_stands : IsTree shape after k (page_of k left) from (Some key) lower
  pub upper_stands : IsTree shape after k (page_of k right) (Some key) to upper
  pub has : entries_of k lower ++ entries_of k upper ≡ entries_of k left ++ entries_of k right
  pub below_lower : List ℕ
  pub below_upper : List ℕ
  pub lower_pages : pages_of k lower ≡ page_of k left ∷ below_lower
  pub upper_pages : pages_of k upper ≡ page_of k right ∷ below_upper
  pub pages : below_lower ++ below_upper ≡ pages_below k left ++ pages_below k right
  pub full : least_entries shape k ≤ size_of k left + 1 → least_entries shape k ≤ size_of k right + 1 → (least_entries shape k ≤ size_of k lower) × (least_entries shape k ≤ size_of k upper)
  pub lower_filled : IsHalfFull shape k lower
  pub upper_filled : IsHalfFull shape k upper

module _ (shape : NodeShape) (before after : PageMap) (from to : Bound) (s : List ℕ) (under : Above from s) (over : Below to s) where
  both_rise : (left right : TreeOf zero) → IsOrdered shape.width zero from (Some s) left → IsOrdered shape.width zero (Some s) to right → Ascends shape.width (left.1 ++ right.1)
  both_rise left right ol or =
      ascends_join shape.width s left.1 right.1 ol.0 or.0
      (Each-weaker (Inside shape.width from (Some s)) (λ e. less (take shape.width e) s ≡ true) (λ e i. i.1) left.1 ol.1)
      (Each-weaker (Inside shape.width (Some s) to) (λ e. less (take shape.width e) s ≡ false) (λ e i. i.0) right.1 or.1)

  both_inside : (left right : TreeOf zero) → IsOrdered shape.width zero from (Some s) left → IsOrdered shape.width zero (Some s) to right → Each (Inside shape.width from to) (left.1 ++ right.1)
  both_inside left right ol or =
      Each-append (Inside shape.width from to) left.1 right.1
      (Each-weaker (Inside shape.width from (Some s)) (Inside shape.width from to) (λ e i. (i.0, Below-trans to s (take shape.width e) over i.1)) left.1 ol.1)
      (Each-weaker (Inside shape.width (Some s) to) (Inside shape.width from to) (λ e i. (NotBelow-trans from s (take shape.width e) (above_not_below from s under) i.0, i.1)) right.1 or.1)

  entries_there : (page : ℕ) (entries : List (List ℕ)) (bytes : List ℕ) → IsLeafAt shape before page entries → before page ≡ Some bytes → leaf_entries shape bytes ≡ entries
  entries_there page entries bytes at there =
      let same : bytes ≡ at.bytes = cc (at.there, there) in
      ap (leaf_entries shape) same ∙ at.holds

  separators_there : (page : ℕ) (ss : List (List ℕ)) (below : List ℕ) (bytes : List ℕ) → IsInnerAt shape before page ss below → before page ≡ Some bytes → separators shape bytes ≡ ss
  separators_there page ss below bytes at there =
      let same : bytes ≡ at.bytes = cc (at.there, there) in
      ap (separators shape) same ∙ at.rises

  children_there : (page : ℕ) (ss : List (List ℕ)) (below : List ℕ) (bytes : List ℕ) → IsInnerAt shape before page ss below → before page ≡ Some bytes → children shape bytes ≡ below
  children_there page ss below bytes at there =
      let same : bytes ≡ at.bytes = cc (at.there, there) in
      ap (children shape) same ∙ at.leads

  pub leaves_joined : (left right : TreeOf zero) (bl br now : List ℕ) → Holds shape before zero left → Holds shape before zero right
      → IsOrdered shape.width zero from (Some s) left → IsOrdered shape.width zero (Some s) to right → before left.0 ≡ Some bl → before right.0 ≡ Some br
      → LeavesJoined shape bl br now → after left.0 ≡ Some now → OneTree shape after zero from to left right
  leaves_joined left right bl br now hl hr ol or there there' joined is =
      let l = entries_there left.0 left.1 bl hl there in
      let r = entries_there right.0 right.1 br hr there' in
      record {
        tree = (left.0, left.1 ++ right.1);
        stands = record {
          holds = record { bytes = now; there = is; leaf = joined.leaf; holds = joined.has ∙ ap (λ (x : List (List ℕ)). x ++ leaf_entries shape br) l ∙ ap (λ (x : List (List ℕ)). left.1 ++ x) r };
          root = refl;
          ordered = (both_rise left right ol or, both_inside left right ol or);
        };
        has = refl;
        pages = refl;
        large = rw (length-append left.1 right.1) (omega arith);
        filled = tt;
      }

  pub leaves_shared : (left right : TreeOf zero) (bl br now now' key : List ℕ) → Holds shape before zero left → Holds shape before zero right
      → IsOrdered shape.width zero from (Some s) left → IsOrdered shape.width zero (Some s) to right → before left.0 ≡ Some bl → before right.0 ≡ Some br
      → LeavesShared shape bl br now now' key → after left.0 ≡ Some now → after right.0 ≡ Some now' → TwoTrees shape after zero from to left right key
  leaves_shared left right bl br now now' key hl hr ol or there there' shared is is' =
      let l = entries_there left.0 left.1 bl hl there in
      let r = entries_there right.0 right.1 br hr there' in
      let xs = leaf_entries shape now in
      let ys = leaf_entries shape now' in
      let all : xs ++ ys ≡ left.1 ++ right.1 = shared.has ∙ ap (λ (x : List (List ℕ)). x ++ leaf_entries shape br) l ∙ ap (λ (x : List (List ℕ)). left.1 ++ x) r in
      let cut = parts shape.width from to xs ys shared.some.0 shared.some.1 (subst (Ascends shape.width) (sym all) (both_rise left right ol or))
      (subst (Each (Inside shape.width from to)) (sym all) (both_inside left right ol or)) in
      let is_key = shared.between in
      record {
        lower = (left.0, xs);
        upper = (right.0, ys);
        under = rw is_key cut.under;
        over = rw is_key cut.over;
        lower_stands = record { holds = record { bytes = now; there = is; leaf = shared.lower; holds = refl }; root = refl; ordered = rw is_key cut.left };
        upper_stands = record { holds = record { bytes = now'; there = is'; leaf = shared.upper; holds = refl }; root = refl; ordered = rw is_key cut.right };
        has = all;
        below_lower = [];
        below_upper = [];
        lower_pages = refl;
        upper_pages = refl;
        pages = refl;
        full = λ a b. shared.fill (rw l a) (rw r b);
        lower_filled = tt;
        upper_filled = tt;
      }

  pub inners_joined : (k : ℕ) (left right : TreeOf (suc k)) (bl br now : List ℕ) → Holds shape before (suc k) left → Holds shape before (suc k) right
      → IsOrdered shape.width (suc k) from (Some s) left → IsOrdered shape.width (suc k) (Some s) to right → before left.0 ≡ Some bl → before right.0 ≡ Some br
      → InnersJoined shape s bl br now → after left.0 ≡ Some now → IsHalfFull shape (suc k) left → IsHalfFull shape (suc k) right
      → Each (λ n. after n ≡ before n) (flat_map (pages_of k) left.2 ++ flat_map (pages_of k) right.2) → OneTree shape after (suc k) from to left right
  inners_joined k left right bl br now hl hr ol or there there' joined is fl fr still =
      let l = separators_there left.0 left.1 (map (page_of k) left.2) bl hl.0 there in
      let r = separators_there right.0 right.1 (map (page_of k) right.2) br hr.0 there' in
      let cl = children_there left.0 left.1 (map (page_of k) left.2) bl hl.0 there in
      let cr = children_there right.0 right.1 (map (page_of k) right.2) br hr.0 there' in
      let ss = left.1 ++ s ∷ right.1 in
      let xs = left.2 ++ right.2 in
      let at : IsInnerAt shape after left.0 ss (map (page_of k) xs) = record {
        bytes = now;
        there = is;
        inner = joined.inner;
        rises = joined.has ∙ ap (λ (x : List (List ℕ)). x ++ s ∷ separators shape br) l ∙ ap (λ (x : List (List ℕ)). left.1 ++ s ∷ x) r;
        leads = joined.below ∙ ap (λ (x : List ℕ). x ++ children shape br) cl ∙ ap (λ (x : List ℕ). map (page_of k) left.2 ++ x) cr ∙ sym (map-append (page_of k) left.2 right.2);
      } in
      let row = row_join (IsOrdered shape.width k) from left.1 left.2 s right.1 right.2 to under over ol.1 or.1 in
      let flat = flat_map-append (pages_of k) left.2 right.2 in
      let size = length-append left.1 (s ∷ right.1) in
      record {
        tree = (left.0, ss, xs);
        stands = record {
          holds = (at, rows_still shape before after k xs (Each-append (Holds shape before k) left.2 right.2 hl.1 hr.1) (subst (Each (λ n. after n ≡ before n)) (sym flat) still));
          root = refl;
          ordered = (row_rises shape.width (IsOrdered shape.width k) from ss xs to row (node_whole shape after left.0 ss (map (page_of k) xs) at), row);
        };
        has = flat_map-append (entries_of k) left.2 right.2;
        pages = ap (λ (x : List ℕ). left.0 ∷ x) flat;
        large = omega arith;
        filled = Each-append (λ c. (least_entries shape k ≤ size_of k c) × IsHalfFull shape k c) left.2 right.2 fl fr;
      }

  pub inners_shared : (k : ℕ) (left right : TreeOf (suc k)) (bl br now now' key : List ℕ) → Holds shape before (suc k) left → Holds shape before (suc k) right
      → IsOrdered shape.width (suc k) from (Some s) left → IsOrdered shape.width (suc k) (Some s) to right → before left.0 ≡ Some bl → before right.0 ≡ Some br
      → InnersShared shape s bl br now now' key → after left.0 ≡ Some now → after right.0 ≡ Some now' → IsHalfFull shape (suc k) left → IsHalfFull shape (suc k) right
      → Each (λ n. after n ≡ before n) (flat_map (pages_of k) left.2 ++ flat_map (pages_of k) right.2) → TwoTrees shape after (suc k) from to left right key
  inners_shared k left right bl br now now' key hl hr ol or there there' shared is is' fl fr still =
      let l = separators_there left.0 left.1 (map (page_of k) left.2) bl hl.0 there in
      let r = separators_there right.0 right.1 (map (page_of k) right.2) br hr.0 there' in
      let cl = children_there left.0 left.1 (map (page_of k) left.2) bl hl.0 there in
      let cr = children_there right.0 right.1 (map (page_of k) right.2) br hr.0 there' in
      let ls = separators shape now in
      let rs = separators shape now' in
      let xs = left.2 ++ right.2 in
      let m = length ls in
      let all : ls ++ key ∷ rs ≡ left.1 ++ s ∷ right.1 = shared.has ∙ ap (λ (x : List (List ℕ)). x ++ s ∷ separators shape br) l ∙ ap (λ (x : List (List ℕ)). left.1 ++ s ∷ x) r in
      let row = row_join (IsOrdered shape.width k) from left.1 left.2 s right.1 right.2 to under over ol.1 or.1 in
      let row' = subst (λ (ss : List (List ℕ)). IsRow (IsOrdered shape.width k) from ss xs to) (sym all) row in
      let inside : m < length (ls ++ key ∷ rs) = rw (length-append ls (key ∷ rs)) (omega arith) in
      let cut = row_split shape.width (IsOrdered shape.width k) from (ls ++ key ∷ rs) xs to m row' inside in
      let is_key : get_or (ls ++ key ∷ rs) m [] ≡ key = get_or_at ls key rs [] m refl in
      let is_low : take m (ls ++ key ∷ rs) ≡ ls = take_at ls (key ∷ rs) m refl in
      let joined : (ls ++ key ∷ []) ++ rs ≡ ls ++ key ∷ rs = append_assoc ls (key ∷ []) rs in
      let long : length (ls ++ key ∷ []) ≡ suc m = length-append ls (key ∷ []) ∙ add-one m in
      let is_high : drop (suc m) (ls ++ key ∷ rs) ≡ rs = ap (drop (suc m)) (sym joined) ∙ drop_at (ls ++ key ∷ []) rs (suc m) long in
      let first = take (suc m) xs in
      let second = drop (suc m) xs in
      let kids : children shape now ++ children shape now' ≡ map (page_of k) xs = shared.below ∙ ap (λ (x : List ℕ). x ++ children shape br) cl ∙ ap (λ (x : List ℕ). map (page_of k) left.2 ++ x) cr ∙ sym (map-append (page_of k) left.2 right.2) in
      let many : length (children shape now) ≡ suc m = length_children shape now ∙ ap (λ (n : ℕ). n + 1) (sym (length_separators shape now)) ∙ add-one m in
      let kids_low : children shape now ≡ map (page_of k) first = sym (take_at (children shape now) (children shape now') (suc m) many) ∙ ap (take (suc m)) kids ∙ take-map (page_of k) (suc m) xs in
      let kids_high : children shape now' ≡ map (page_of k) second = sym (drop_at (children shape now) (children shape now') (suc m) many) ∙ ap (drop (suc m)) kids ∙ drop-map (page_of k) (suc m) xs in
      let at : IsInnerAt shape after left.0 ls (map (page_of k) first) = record { bytes = now; there = is; inner = shared.lower; rises = refl; leads = kids_low } in
      let at' : IsInnerAt shape after right.0 rs (map (page_of k) second) = record { bytes = now'; there = is'; inner = shared.upper; rises = refl; leads = kids_high } in
      let flat = flat_map-append (pages_of k) left.2 right.2 in
      let hold = rows_still shape before after k xs (Each-append (Holds shape before k) left.2 right.2 hl.1 hr.1) (subst (Each (λ n. after n ≡ before n)) (sym flat) still) in
      let fill = Each-append (λ c. (least_entries shape k ≤ size_of k c) × IsHalfFull shape k c) left.2 right.2 fl fr in
      let low_row : IsRow (IsOrdered shape.width k) from ls first (Some key) = rw (is_low, is_key) at cut.left in
      let high_row : IsRow (IsOrdered shape.width k) (Some key) rs second to = rw (is_high, is_key) at cut.right in
      record {
        lower = (left.0, ls, first);
        upper = (right.0, rs, second);
        under = rw is_key at cut.under;
        over = rw is_key at cut.over;
        lower_stands = record {
          holds = (at, each_take (Holds shape after k) (suc m) xs hold);
          root = refl;
          ordered = (row_rises shape.width (IsOrdered shape.width k) from ls first (Some key) low_row (node_whole shape after left.0 ls (map (page_of k) first) at), low_row);
        };
        upper_stands = record {
          holds = (at', each_drop (Holds shape after k) (suc m) xs hold);
          root = refl;
          ordered = (row_rises shape.width (IsOrdered shape.width k) (Some key) rs second to high_row (node_whole shape after right.0 rs (map (page_of k) second) at'), high_row);
        };
        has = sym (flat_map-append (entries_of k) first second) ∙ ap (flat_map (entries_of k)) (take-append-drop (suc m) xs) ∙ flat_map-append (entries_of k) left.2 right.2;
        below_lower = flat_map (pages_of k) first;
        below_upper = flat_map (pages_of k) second;
        lower_pages = refl;
        upper_pages = refl;
        pages = sym (flat_map-append (pages_of k) first second) ∙ ap (flat_map (pages_of k)) (take-append-drop (suc m) xs) ∙ flat;
        full = λ a b. shared.fill (rw l a) (rw r b);
        lower_filled = each_take (λ c. (least_entries shape k ≤ size_of k c) × IsHalfFull shape k c) (suc m) xs fill;
        upper_filled = each_drop (λ c. (least_entries shape k ≤ size_of k c) × IsHalfFull shape k c) (suc m) xs fill;
      }

-- ---- of any height

module _ (shape : NodeShape) (before after : PageMap) (from to : Bound) (s : List ℕ) (under : Above from s) (over : Below to s) where
  pub trees_joined : (k : ℕ) (left right : TreeOf k) (bl br now : List ℕ) → Holds shape before k left → Holds shape before k right
      → IsOrdered shape.width k from (Some s) left → IsOrdered shape.width k (Some s) to right → before (page_of k left) ≡ Some bl → before (page_of k right) ≡ Some br
      → AreJoined shape k s bl br now → after (page_of k left) ≡ Some now → IsHalfFull shape k left → IsHalfFull shape k right
      → Each (λ n. after n ≡ before n) (pages_below k left ++ pages_below k right) → OneTree shape after k from to left right
  trees_joined zero left right bl br now hl hr ol or there there' joined is fl fr still =
      leaves_joined shape before after from to s under over left right bl br now hl hr ol or there there' joined is
  trees_joined (suc k) left right bl br now hl hr ol or there there' joined is fl fr still =
      inners_joined shape before after from to s under over k left right bl br now hl hr ol or there there' joined is fl fr still

  pub trees_shared : (k : ℕ) (left right : TreeOf k) (bl br now now' key : List ℕ) → Holds shape before k left → Holds shape before k right
      → IsOrdered shape.width k from (Some s) left → IsOrdered shape.width k (Some s) to right → before (page_of k left) ≡ Some bl → before (page_of k right) ≡ Some br
      → AreShared shape k s bl br now now' key → after (page_of k left) ≡ Some now → after (page_of k right) ≡ Some now' → IsHalfFull shape k left → IsHalfFull shape k right
      → Each (λ n. after n ≡ before n) (pages_below k left ++ pages_below k right) → TwoTrees shape after k from to left right key
  trees_shared zero left right bl br now now' key hl hr ol or there there' shared is is' fl fr still =
      leaves_shared shape before after from to s under over left right bl br now now' key hl hr ol or there there' shared is is'
  trees_shared (suc k) left right bl br now now' key hl hr ol or there there' shared is is' fl fr still =
      inners_shared shape before after from to s under over k left right bl br now now' key hl hr ol or there there' shared is is' fl fr still

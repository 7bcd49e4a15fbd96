-- The rows of a tree that stands, and what its levels have.
use Rattle.std.proofs.Common.{◌≡◌, ℕ, zero, suc, ◌+◌, ◌<◌, ◌^◌, List, [], ◌∷◌, ◌++◌, length, map, flat_map, refl, ap, sym, ◌∙◌, arith, subst}
use Rattle.std.proofs.lemmas.List.{length-append, length-map, map-append, append-nil}
use Rattle.std.proofs.lemmas.Grind.{flat_map-append}
use Rattle.pages.specs.Each.{Each}
use Rattle.pages.proofs.EachLemmas.{each_join}
use Rattle.pages.specs.PageMap.{PageMap}
use Rattle.tree_node.specs.declared.shape.NodeShape.{NodeShape}
use Rattle.tree_node.specs.Leaf.{IsLeaf, leaf_entries}
use Rattle.tree_node.specs.Inner.{IsInner, separators, children}
use Rattle.tree_search.specs.Tree.{TreeOf, page_of, pages_of, entries_of}
use Rattle.tree_search.specs.Stored.{Holds}
use Rattle.page_walks.specs.declared.level.TreeCounts.{TreeCounts}
use Rattle.page_walks.specs.Rows.{page_at, IsLeafIn, IsInnerIn, AreNodes, children_in, separators_in, entries_in_row, leaves_in, levels_in}
use Rattle.page_walks.specs.Levels.{levels_of, all_pages, AreShown, IsTreeIn, AreCounts, LevelsHaveAllPages}

module _ (shape : NodeShape) (pages : PageMap) (list : List (List ℕ)) (shown : AreShown pages list) where
  leaf_in : (t : TreeOf 0) → Holds shape pages 0 t → IsLeafIn shape list t.0
  leaf_in t holds =
      let at = shown t.0 holds.bytes holds.there in
      record { there = at.0; leaf = subst (IsLeaf shape) (sym at.1) holds.leaf }

  leaves_are : (ts : List (TreeOf 0)) → Each (Holds shape pages 0) ts → Each (IsLeafIn shape list) (map (page_of 0) ts)
  leaves_are [] all = tt
  leaves_are (t ∷ ts) all = (leaf_in t all.0, leaves_are ts all.1)

  entries_are : (ts : List (TreeOf 0)) → Each (Holds shape pages 0) ts → entries_in_row shape list (map (page_of 0) ts) ≡ flat_map (λ (t : TreeOf 0). t.1) ts
  entries_are [] all = refl
  entries_are (t ∷ ts) all =
      let at = shown t.0 all.0.bytes all.0.there in
      let one : leaf_entries shape (page_at list t.0) ≡ t.1 = ap (leaf_entries shape) at.1 ∙ all.0.holds in
      rw (one, entries_are ts all.1) refl

  module _ (h : ℕ) where
    inner_in : (t : TreeOf (suc h)) → Holds shape pages (suc h) t → IsInnerIn shape list t.0
    inner_in t holds =
        let at = shown t.0 holds.0.bytes holds.0.there in
        record { there = at.0; inner = subst (IsInner shape) (sym at.1) holds.0.inner }

    inners_are : (ts : List (TreeOf (suc h))) → Each (Holds shape pages (suc h)) ts → Each (IsInnerIn shape list) (map (page_of (suc h)) ts)
    inners_are [] all = tt
    inners_are (t ∷ ts) all = (inner_in t all.0, inners_are ts all.1)

    separators_are : (ts : List (TreeOf (suc h))) → Each (Holds shape pages (suc h)) ts
        → separators_in shape list (map (page_of (suc h)) ts) ≡ flat_map (λ (t : TreeOf (suc h)). t.1) ts
    separators_are [] all = refl
    separators_are (t ∷ ts) all =
        let at = shown t.0 all.0.0.bytes all.0.0.there in
        let one : separators shape (page_at list t.0) ≡ t.1 = ap (separators shape) at.1 ∙ all.0.0.rises in
        rw (one, separators_are ts all.1) refl

    children_are : (ts : List (TreeOf (suc h))) → Each (Holds shape pages (suc h)) ts
        → children_in shape list (map (page_of (suc h)) ts) ≡ map (page_of h) (flat_map (λ (t : TreeOf (suc h)). t.2) ts)
    children_are [] all = refl
    children_are (t ∷ ts) all =
        let at = shown t.0 all.0.0.bytes all.0.0.there in
        let one : children shape (page_at list t.0) ≡ map (page_of h) t.2 = ap (children shape) at.1 ∙ all.0.0.leads in
        let more = map-append (page_of h) t.2 (flat_map (λ (t : TreeOf (suc h)). t.2) ts) in
        ap (λ (l : List ℕ). l ++ children_in shape list (map (page_of (suc h)) ts)) one
        ∙ ap (λ (l : List ℕ). map (page_of h) t.2 ++ l) (children_are ts all.1) ∙ sym more

    below_hold : (ts : List (TreeOf (suc h))) → Each (Holds shape pages (suc h)) ts → Each (Holds shape pages h) (flat_map (λ (t : TreeOf (suc h)). t.2) ts)
    below_hold [] all = tt
    below_hold (t ∷ ts) all = each_join (Holds shape pages h) t.2 (flat_map (λ (t : TreeOf (suc h)). t.2) ts) all.0.1 (below_hold ts all.1)

    entries_below : (ts : List (TreeOf (suc h))) → flat_map (entries_of (suc h)) ts ≡ flat_map (entries_of h) (flat_map (λ (t : TreeOf (suc h)). t.2) ts)
    entries_below [] = refl
    entries_below (t ∷ ts) =
        let more = flat_map-append (entries_of h) t.2 (flat_map (λ (t : TreeOf (suc h)). t.2) ts) in
        rw (more, entries_below ts) refl

  -- what the rows of these trees are
  pub record RowsAre (h : ℕ) (ts : List (TreeOf h)) (row : List ℕ) : Type 0 where
    pub nodes : AreNodes shape list h row
    pub levels : levels_in shape list h row ≡ levels_of shape h ts
    pub leaves : Each (IsLeafIn shape list) (leaves_in shape list h row)
    pub entries : entries_in_row shape list (leaves_in shape list h row) ≡ flat_map (entries_of h) ts

  pub rows_are : (h : ℕ) (ts : List (TreeOf h)) → Each (Holds shape pages h) ts → RowsAre h ts (map (page_of h) ts)
  rows_are zero ts all = record {
    nodes = leaves_are ts all;
    levels = rw (entries_are ts all, length-map) refl;
    leaves = leaves_are ts all;
    entries = entries_are ts all;
  }
  rows_are (suc h) ts all =
      let below = flat_map (λ (t : TreeOf (suc h)). t.2) ts in
      let rest = rows_are h below (below_hold h ts all) in
      let down = children_are h ts all in
      record {
        nodes = (inners_are h ts all, subst (AreNodes shape list h) (sym down) rest.nodes);
        levels = rw (separators_are h ts all, length-map, down, rest.levels) refl;
        leaves = subst (λ (row : List ℕ). Each (IsLeafIn shape list) (leaves_in shape list h row)) (sym down) rest.leaves;
        entries = ap (λ (row : List ℕ). entries_in_row shape list (leaves_in shape list h row)) down ∙ rest.entries ∙ sym (entries_below h ts);
      }

-- the pages of trees are their own, and those below
pages_below : (h : ℕ) (ts : List (TreeOf (suc h))) → length (flat_map (pages_of (suc h)) ts) ≡ length ts + length (flat_map (pages_of h) (flat_map (λ (t : TreeOf (suc h)). t.2) ts))
pages_below h [] = refl
pages_below h (t ∷ ts) =
    let left = length-append (pages_of (suc h) t) (flat_map (pages_of (suc h)) ts) in
    let down = flat_map-append (pages_of h) t.2 (flat_map (λ (t : TreeOf (suc h)). t.2) ts) in
    let right = length-append (flat_map (pages_of h) t.2) (flat_map (pages_of h) (flat_map (λ (t : TreeOf (suc h)). t.2) ts)) in
    omega (arith, left, ap length down, right, pages_below h ts)

single_pages : (ts : List (TreeOf 0)) → length (flat_map (pages_of 0) ts) ≡ length ts
single_pages [] = refl
single_pages (t ∷ ts) = ap suc (single_pages ts)

levels_have : (shape : NodeShape) (h : ℕ) (ts : List (TreeOf h)) → all_pages (levels_of shape h ts) ≡ length (flat_map (pages_of h) ts)
levels_have shape zero ts = omega (arith, single_pages ts)
levels_have shape (suc h) ts = omega (arith, pages_below h ts, levels_have shape h (flat_map (λ (t : TreeOf (suc h)). t.2) ts))

pub levels_have_all_pages : LevelsHaveAllPages
levels_have_all_pages shape h tree = levels_have shape h (tree ∷ []) ∙ ap length (append-nil (pages_of h tree))

-- the rows from the root of a tree down are those of its levels
pub tree_rows : (shape : NodeShape) (list : List (List ℕ)) (h root : ℕ) (tree : TreeOf h) → (is : IsTreeIn shape list h root tree)
    → RowsAre shape is.pages list is.shown h (tree ∷ []) (root ∷ [])
tree_rows shape list h root tree is =
    subst (λ (n : ℕ). RowsAre shape is.pages list is.shown h (tree ∷ []) (n ∷ [])) is.root_is
    (rows_are shape is.pages list is.shown h (tree ∷ []) (is.holds, tt))

pub tree_few : (shape : NodeShape) (list : List (List ℕ)) (h root : ℕ) (tree : TreeOf h) → IsTreeIn shape list h root tree
    → length (entries_in_row shape list (leaves_in shape list h (root ∷ []))) < 2 ^ 64
tree_few shape list h root tree is =
    let rows = tree_rows shape list h root tree is in
    let same : length (entries_in_row shape list (leaves_in shape list h (root ∷ []))) ≡ length (entries_of h tree) = ap length (rows.entries ∙ append-nil (entries_of h tree)) in
    omega (arith, same, is.few)

pub counts_are : (shape : NodeShape) (list : List (List ℕ)) (h root : ℕ) (tree : TreeOf h) (counts : TreeCounts) → IsTreeIn shape list h root tree
    → counts.levels.items ≡ levels_in shape list h (root ∷ []) → counts.leaves.items ≡ leaves_in shape list h (root ∷ []) → AreCounts shape list h tree counts
counts_are shape list h root tree counts is levels leaves =
    let rows = tree_rows shape list h root tree is in
    record {
      levels = levels ∙ rows.levels;
      leaves = subst (Each (IsLeafIn shape list)) (sym leaves) rows.leaves;
      entries = ap (entries_in_row shape list) leaves ∙ rows.entries ∙ append-nil (entries_of h tree);
    }

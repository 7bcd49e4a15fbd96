-- What a walk finds of a tree.
use Rattle.std.specs.Prelude.{◌≡◌, ℕ, zero, suc, ◌≤◌, Bool, List, [], ◌∷◌, ◌++◌, length, map, flat_map, take}
use Rattle.std.specs.Prelude.{slice_index_or, Some, Result, OnOk, ⊤}
use Rattle.std.specs.Option.{option_copied}
use Rattle.pages.specs.Each.{Each}
use Rattle.pages.specs.PageMap.{PageMap}
use Rattle.tree_node.specs.declared.shape.NodeShape.{NodeShape}
use Rattle.tree_node.specs.Order.{Ascends}
use Rattle.tree_node.specs.Leaf.{IsLeaf, leaf_entries}
use Rattle.tree_node.specs.Inner.{IsInner, separators}
use Rattle.tree_node.specs.Fill.{least_entries}
use Rattle.bplus_tree.specs.declared.tree.Tree.{Tree}
use Rattle.tree_search.specs.Tree.{TreeOf, page_of, pages_of, entries_of, Bound}
use Rattle.tree_search.specs.Calls.{size_of, IsHalfFull, IsTree}
use Rattle.tree_search.specs.Tree.{IsOrdered}
use Rattle.tree_search.specs.Stored.{Holds}
use Rattle.bplus_tree.specs.Standing.{TreeStands}
use Rattle.bplus_tree.specs.Fields.{tree_shape}
use Rattle.pages.specs.declared.walk_fault.WalkFault.{WalkFault}
use Rattle.pages.specs.Marks.{Marks, marked_in}
use Rattle.pages.specs.PageList.{pages_in}
use Rattle.page_walks.specs.declared.spot.LeafSpot.{LeafSpot}
use Rattle.page_walks.specs.declared.leaf.Leaf.{Leaf}
use Rattle.page_walks.specs.declared.tree_walk.Limits.{Limits}
use Rattle.page_walks.specs.Order.{AreBetween, AreKeysInside}
use Rattle.page_walks.specs.Spots.{IsLeafThere, entries_at, spots_in}

-- The tree stands in the pages that were reached now, each of which was not reached before, and
-- these are the places of its entries.
pub record TreeWalked (tree : Tree) (list : List (List ℕ)) (before after : ℕ → Bool)
    (spots : List LeafSpot) : Type 0 where
  pub own : List ℕ
  pub stands : TreeStands tree (pages_in list) (entries_at (tree_shape tree) list spots) own
  pub marks : Marks before after own

-- so, of marks before and after, and of the leaves that were found
abbrev pub WalksTree : Tree → List (List ℕ) → (before after : List Bool) → List Leaf → Type 0
WalksTree tree list before after leaves =
    TreeWalked tree list (marked_in before) (marked_in after) (spots_in leaves)

-- the page is a leaf with so many entries at least, whose keys rise within these bounds
pub record LeafFits (shape : NodeShape) (page : List ℕ) (floor : ℕ) (low high : Bound) : Type 0 where
  pub leaf : IsLeaf shape page
  pub large : floor ≤ length (leaf_entries shape page)
  pub rises : Ascends shape.width (leaf_entries shape page)
  pub inside : AreKeysInside shape.width low high (leaf_entries shape page)

-- so, within the limits of its place
abbrev pub IsLeafWithin : NodeShape → List ℕ → Limits → Type 0
IsLeafWithin shape page limits =
    LeafFits shape page limits.least (option_copied limits.low) (option_copied limits.high)

-- the page is an inner node with so many separators at least, which rise between these bounds
pub record InnerFits (shape : NodeShape) (page : List ℕ) (floor : ℕ) (low high : Bound) : Type 0 where
  pub inner : IsInner shape page
  pub large : floor ≤ length (separators shape page)
  pub rises : Ascends shape.width (separators shape page)
  pub between : AreBetween low (separators shape page) high

-- so, within the limits of its place
abbrev pub IsInnerWithin : NodeShape → List ℕ → Limits → Type 0
IsInnerWithin shape page limits =
    InnerFits shape page limits.least (option_copied limits.low) (option_copied limits.high)

-- how far a walk has come: the pages with a mark, and the entries whose places are known
pub record Reach : Type 0 where
  pub marks : ℕ → Bool
  pub entries : List (List ℕ)

abbrev pub reach_of : NodeShape → List (List ℕ) → List Bool → List LeafSpot → Reach
reach_of shape list reached spots = record {
  marks = marked_in reached;
  entries = entries_at shape list spots;
}

-- A tree with h levels above its leaves stands below the page, within these bounds, its root with
-- so many entries or separators at least; its pages were reached now, and its entries come behind
-- those that were known.
pub record Walked (shape : NodeShape) (pages : PageMap) (h page floor : ℕ) (low high : Bound)
    (before after : Reach) : Type 0 where
  pub tree : TreeOf h
  pub stands : IsTree shape pages h page low high tree
  pub filled : IsHalfFull shape h tree
  pub large : floor ≤ size_of h tree
  pub marks : Marks before.marks after.marks (pages_of h tree)
  pub adds : after.entries ≡ before.entries ++ entries_of h tree

-- so, within the limits of its place, where the walk had come so far, has come so far now, and goes on
abbrev pub WalksBelow : NodeShape → (levels page : ℕ) → Limits → (before after : List Bool × List Leaf)
    → Result Unit WalkFault → List (List ℕ) → Type 0
WalksBelow shape levels page limits before after result list =
    OnOk result (Walked shape (pages_in list) levels page limits.least (option_copied limits.low)
    (option_copied limits.high) (reach_of shape list before.0 (spots_in before.1))
    (reach_of shape list after.0 (spots_in after.1)))

-- this is so of each list of pages that has these bytes on page n
abbrev pub WherePageIs : (n : ℕ) → (bytes : List ℕ) → (List (List ℕ) → Type 0) → Type 0
WherePageIs n bytes fact = (list : List (List ℕ)) → pages_in list n ≡ Some bytes → fact list

-- where the leaves were there, they are now
abbrev pub StayThere : NodeShape → List (List ℕ) → (old new : List Leaf) → Type 0
StayThere shape list old new = Each (IsLeafThere shape list) old → Each (IsLeafThere shape list) new

-- the entries of the leaf on this page come behind those of the leaves so far
abbrev pub AddsLeaf : NodeShape → List (List ℕ) → (page : ℕ) → (old new : List Leaf) → Type 0
AddsLeaf shape list page old new = entries_at shape list (spots_in new)
    ≡ entries_at shape list (spots_in old) ++ leaf_entries shape (slice_index_or list page [])

-- the bound to the left of member i of a row
abbrev pub bound_at : Bound → List (List ℕ) → ℕ → Bound
bound_at low ss zero = low
bound_at low [] (suc i) = low
bound_at low (s ∷ ss) (suc i) = bound_at (Some s) ss i

-- the first members of a row, each with a separator to its right
abbrev pub AreFirstMembers : {X : Type 0} → (Bound → Bound → X → Type 0) → Bound → List (List ℕ) → List X
    → Type 0
AreFirstMembers Between low ss [] = ⊤
AreFirstMembers Between low [] (x ∷ xs) = ⊥
AreFirstMembers Between low (s ∷ ss) (x ∷ xs) = Between low (Some s) x
    × AreFirstMembers Between (Some s) ss xs

-- so many children of a node with these separators were walked, from the first one on
pub record WalkedFront (shape : NodeShape) (pages : PageMap) (k : ℕ) (low : Bound) (ss : List (List ℕ))
    (below : List ℕ) (i : ℕ) (before after : Reach) : Type 0 where
  pub trees : List (TreeOf k)
  pub as_many : length trees ≡ i
  pub leads : map (page_of k) trees ≡ take i below
  pub holds : Each (Holds shape pages k) trees
  pub ordered : AreFirstMembers (IsOrdered shape.width k) low ss trees
  pub filled : Each (λ c. (least_entries shape k ≤ size_of k c) × IsHalfFull shape k c) trees
  pub marks : Marks before.marks after.marks (flat_map (pages_of k) trees)
  pub adds : after.entries ≡ before.entries ++ flat_map (entries_of k) trees

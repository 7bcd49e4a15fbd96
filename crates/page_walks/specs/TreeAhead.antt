-- Trees that no walk has reached, and what a walk has yet to find of them.
use Rattle.std.specs.Prelude.{◌≡◌, ◌≤◌, ℕ, Bool, List, map, flat_map}
use Rattle.std.specs.Option.{option_copied}
use Rattle.pages.specs.Each.{Each}
use Rattle.pages.specs.Owners.{AreApart}
use Rattle.pages.specs.PageMap.{PageMap}
use Rattle.tree_node.specs.declared.shape.NodeShape.{NodeShape}
use Rattle.tree_node.specs.Fill.{least_entries}
use Rattle.tree_search.specs.Tree.{TreeOf, page_of, pages_of, Bound, IsRow, IsOrdered}
use Rattle.tree_search.specs.Calls.{size_of, IsHalfFull, IsTree}
use Rattle.tree_search.specs.Stored.{Holds}
use Rattle.bplus_tree.specs.declared.tree.Tree.{Tree}
use Rattle.bplus_tree.specs.Standing.{TreeStands}
use Rattle.pages.specs.Marks.{IsUnmarked}
use Rattle.pages.specs.PageList.{pages_in}
use Rattle.page_walks.specs.declared.tree_walk.Limits.{Limits}

-- the tree stands in these pages, none of which was reached
pub record TreeUnmarked (tree : Tree) (list : List (List ℕ)) (reached : List Bool) : Type 0 where
  pub entries : List (List ℕ)
  pub own : List ℕ
  pub stands : TreeStands tree (pages_in list) entries own
  pub unmarked : Each (IsUnmarked reached) own

-- A tree with h levels above its leaves stands below the page, within these bounds, its root with
-- so many entries or separators at least; none of its pages was reached.
pub record TreeAhead (shape : NodeShape) (pages : PageMap) (h page floor : ℕ) (low high : Bound)
    (reached : List Bool) : Type 0 where
  pub tree : TreeOf h
  pub stands : IsTree shape pages h page low high tree
  pub filled : IsHalfFull shape h tree
  pub large : floor ≤ size_of h tree
  pub apart : AreApart (pages_of h tree)
  pub unmarked : Each (IsUnmarked reached) (pages_of h tree)

-- so, within the limits of its place
abbrev pub AwaitsBelow : NodeShape → List (List ℕ) → (levels page : ℕ) → Limits → List Bool → Type 0
AwaitsBelow shape list levels page limits reached =
    TreeAhead shape (pages_in list) levels page limits.least (option_copied limits.low)
    (option_copied limits.high) reached

-- trees stand below these pages, with these separators between them; none of their pages was reached
pub record RowAhead (shape : NodeShape) (pages : PageMap) (k : ℕ) (low : Bound) (ss : List (List ℕ))
    (below : List ℕ) (high : Bound) (reached : List Bool) : Type 0 where
  pub trees : List (TreeOf k)
  pub leads : map (page_of k) trees ≡ below
  pub holds : Each (Holds shape pages k) trees
  pub ordered : IsRow (IsOrdered shape.width k) low ss trees high
  pub filled : Each (λ c. (least_entries shape k ≤ size_of k c) × IsHalfFull shape k c) trees
  pub apart : AreApart (flat_map (pages_of k) trees)
  pub unmarked : Each (IsUnmarked reached) (flat_map (pages_of k) trees)

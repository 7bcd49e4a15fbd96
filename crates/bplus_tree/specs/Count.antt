-- How many entries a tree of a height has at least.
use Rattle.std.specs.Prelude.{ℕ, zero, suc, ◌*◌, ◌≤◌, length, None}
use Rattle.tree_node.specs.declared.shape.NodeShape.{NodeShape}
use Rattle.pages.specs.PageMap.{PageMap}
use Rattle.tree_search.specs.Tree.{TreeOf, entries_of}
use Rattle.tree_search.specs.Calls.{IsWhole}

-- in a node that is not the root, with h levels below it
abbrev pub fewest : ℕ → ℕ
fewest zero = 4
fewest (suc h) = 8 * fewest h

-- a tree with an inner root has twice as many as one of its children must have
abbrev pub HaveManyEntries : Type 0
HaveManyEntries = (shape : NodeShape) (pages : PageMap) (h page : ℕ) (t : TreeOf (suc h))
    → IsWhole shape pages (suc h) page None None t → 2 * fewest h ≤ length (entries_of (suc h) t)

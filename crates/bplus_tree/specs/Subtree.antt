-- A tree below a page, as a call on that page finds it.
use Rattle.std.specs.Prelude.{ℕ, List, None}
use Rattle.tree_node.specs.declared.shape.NodeShape.{NodeShape}
use Rattle.pages.specs.PageMap.{PageMap}
use Rattle.tree_search.specs.Tree.{TreeOf, Bound, NotBelow, Below}
use Rattle.tree_search.specs.Calls.{IsTree, IsWhole}

-- a page that heads a tree with so many levels above its leaves
pub record Head : Type 0 where
  pub shape : NodeShape
  pub levels : ℕ
  pub page : ℕ

-- this page with so many levels below it
abbrev pub at_page : NodeShape → (levels page : ℕ) → Head
at_page shape levels page = record { shape = shape; levels = levels; page = page }

-- the tree that it heads, and the bounds of its keys
pub record Subtree (at : Head) : Type 0 where
  pub low : Bound
  pub high : Bound
  pub tree : TreeOf at.levels

-- the tree that a root heads: its keys have no bounds
abbrev pub from_root : (at : Head) → TreeOf at.levels → Subtree at
from_root at tree = record { low = None; high = None; tree = tree }

-- it stands in these pages
abbrev pub IsSubtree : {at : Head} → PageMap → Subtree at → Type 0
IsSubtree {at} pages old = IsTree at.shape pages at.levels at.page old.low old.high old.tree

-- and no page stands twice in it, and its nodes are filled
abbrev pub IsWholeSubtree : {at : Head} → PageMap → Subtree at → Type 0
IsWholeSubtree {at} pages old = IsWhole at.shape pages at.levels at.page old.low old.high old.tree

-- a key belongs between its bounds
abbrev pub IsInBounds : {at : Head} → Subtree at → List ℕ → Type 0
IsInBounds old key = NotBelow old.low key × Below old.high key

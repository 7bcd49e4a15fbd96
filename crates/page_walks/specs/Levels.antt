-- What the levels of a tree have, by the tree as a value.
use Rattle.std.specs.Prelude.{◌≡◌, ℕ, zero, suc, ◌+◌, ◌<◌, ◌^◌, List, [], ◌∷◌, length, flat_map, Some, Result}
use Rattle.std.specs.Prelude.{IfOk}
use Rattle.pages.specs.Each.{Each}
use Rattle.pages.specs.PageMap.{PageMap}
use Rattle.tree_node.specs.declared.shape.NodeShape.{NodeShape}
use Rattle.tree_node.specs.Leaf.{leaf_room}
use Rattle.tree_node.specs.Inner.{inner_room}
use Rattle.tree_search.specs.Tree.{TreeOf, page_of, pages_of, entries_of}
use Rattle.tree_search.specs.Stored.{Holds}
use Rattle.page_walks.specs.declared.level.Level.{Level}
use Rattle.page_walks.specs.declared.level.TreeCounts.{TreeCounts}
use Rattle.page_walks.specs.Rows.{page_at, IsLeafIn, entries_in_row}

-- What each level has of these trees, their roots' first, and the leaves' last: a page for each
-- node; the separators of inner nodes, and the entries of leaves; and for how many of them a page
-- has room.
abbrev pub levels_of : NodeShape → (h : ℕ) → List (TreeOf h) → List Level
levels_of shape zero trees = record {
  pages = length trees;
  entries = length (flat_map (λ (t : TreeOf zero). t.1) trees);
  room = leaf_room shape;
} ∷ []
levels_of shape (suc h) trees =
    record {
      pages = length trees;
      entries = length (flat_map (λ (t : TreeOf (suc h)). t.1) trees);
      room = inner_room shape;
    }
    ∷ levels_of shape h (flat_map (λ (t : TreeOf (suc h)). t.2) trees)

-- the pages of all levels
abbrev pub all_pages : List Level → ℕ
all_pages [] = 0
all_pages (level ∷ levels) = level.pages + all_pages levels

-- each page in use is that of the list
abbrev pub AreShown : PageMap → List (List ℕ) → Type 0
AreShown pages list = (n : ℕ) (bytes : List ℕ) → pages n ≡ Some bytes → (n < length list)
    × (page_at list n ≡ bytes)

-- a tree with h levels above its leaves stands below this page, in pages in use that are those of the list
pub record IsTreeIn (shape : NodeShape) (list : List (List ℕ)) (h root : ℕ) (tree : TreeOf h) : Type 0 where
  pub pages : PageMap
  pub shown : AreShown pages list
  pub holds : Holds shape pages h tree
  pub root_is : page_of h tree ≡ root
  pub few : length (entries_of h tree) < 2 ^ 64

abbrev pub HasTreeBelow : NodeShape → List (List ℕ) → ℕ → ℕ → Type 0
HasTreeBelow shape list h root = (tree : TreeOf h) × IsTreeIn shape list h root tree

-- these are the counts of the tree, and its leaves from left to right
pub record AreCounts (shape : NodeShape) (list : List (List ℕ)) (h : ℕ) (tree : TreeOf h)
    (counts : TreeCounts) : Type 0 where
  pub levels : counts.levels.items ≡ levels_of shape h (tree ∷ [])
  pub leaves : Each (IsLeafIn shape list) counts.leaves.items
  pub entries : entries_in_row shape list counts.leaves.items ≡ entries_of h tree

-- so, of whichever tree stands below this page
abbrev pub CountsTree : {X : Type 0} → NodeShape → List (List ℕ) → (h root : ℕ) → Result TreeCounts X → Type 0
CountsTree shape list h root result = (tree : TreeOf h) → IsTreeIn shape list h root tree
    → IfOk result (AreCounts shape list h tree)

-- the levels have all pages of the tree
abbrev pub LevelsHaveAllPages : Type 0
LevelsHaveAllPages = (shape : NodeShape) (h : ℕ) (tree : TreeOf h)
    → all_pages (levels_of shape h (tree ∷ [])) ≡ length (pages_of h tree)

-- A tree in pages.
use Rattle.std.specs.Prelude.{◌≡◌, ℕ, zero, suc, List, map, Some}
use Rattle.tree_node.specs.declared.shape.NodeShape.{NodeShape}
use Rattle.pages.specs.Each.{Each}
use Rattle.tree_node.specs.Leaf.{IsLeaf, leaf_entries}
use Rattle.tree_node.specs.Inner.{IsInner, separators, children}
use Rattle.tree_node.specs.Order.{Ascends}
use Rattle.pages.specs.PageMap.{PageMap}
use Rattle.tree_search.specs.Tree.{TreeOf, page_of}

-- the page is a leaf of these entries
pub record IsLeafAt (shape : NodeShape) (pages : PageMap) (page : ℕ) (entries : List (List ℕ)) : Type 0 where
  pub bytes : List ℕ
  pub there : pages page ≡ Some bytes
  pub leaf : IsLeaf shape bytes
  pub holds : leaf_entries shape bytes ≡ entries

-- the page is an inner node of these separators, with these children
pub record IsInnerAt (shape : NodeShape) (pages : PageMap) (page : ℕ) (seps : List (List ℕ))
    (below : List ℕ) : Type 0 where
  pub bytes : List ℕ
  pub there : pages page ≡ Some bytes
  pub inner : IsInner shape bytes
  pub rises : separators shape bytes ≡ seps
  pub leads : children shape bytes ≡ below

-- what is so of the entries of a leaf, where they rise
abbrev pub WhereRising : NodeShape → List ℕ → (List (List ℕ) → Type 0) → Type 0
WhereRising shape page Says = Ascends shape.width (leaf_entries shape page) → Says (leaf_entries shape page)

-- the tree stands in these pages
abbrev pub Holds : NodeShape → PageMap → (h : ℕ) → TreeOf h → Type 0
Holds shape pages zero t = IsLeafAt shape pages t.0 t.1
Holds shape pages (suc h) t = IsInnerAt shape pages t.0 t.1 (map (page_of h) t.2)
    × Each (Holds shape pages h) t.2

-- What pages read as, whether or not a tree stands in them.
use Rattle.std.specs.Prelude.{◌≡◌, ℕ, zero, suc, List, [], flat_map}
use Rattle.std.specs.Option.{option_map_or}
use Rattle.tree_node.specs.declared.shape.NodeShape.{NodeShape}
use Rattle.tree_node.specs.Leaf.{leaf_entries}
use Rattle.tree_node.specs.Inner.{children}
use Rattle.pages.specs.PageMap.{PageMap}
use Rattle.tree_search.specs.Tree.{TreeOf, page_of, entries_of}
use Rattle.tree_search.specs.Stored.{Holds}

-- the entries below a page with h levels below it, none below a page that is not in use
abbrev pub entries_in : NodeShape → PageMap → ℕ → ℕ → List (List ℕ)
entries_in shape pages zero page = option_map_or (λ bytes. leaf_entries shape bytes) (pages page) []
entries_in shape pages (suc h) page = option_map_or
    (λ bytes. flat_map (entries_in shape pages h) (children shape bytes)) (pages page) []

-- of a tree that stands there, they are its entries
abbrev pub ReadsItsEntries : Type 0
ReadsItsEntries = (shape : NodeShape) (pages : PageMap) (h : ℕ) (t : TreeOf h) → Holds shape pages h t
    → entries_in shape pages h (page_of h t) ≡ entries_of h t

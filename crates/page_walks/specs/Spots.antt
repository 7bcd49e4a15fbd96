-- Where entries of trees stand in a list of pages.
use Rattle.std.specs.Prelude.{◌≡◌, ◌<◌, ◌≤◌, List, [], ◌∷◌, ◌++◌, length, map, flat_map, ℕ, zero, suc, slice_index_or}
use Rattle.tree_node.specs.declared.shape.NodeShape.{NodeShape}
use Rattle.tree_node.specs.Leaf.{IsLeaf, leaf_entries}
use Rattle.page_walks.specs.declared.spot.LeafSpot.{LeafSpot}
use Rattle.page_walks.specs.declared.leaf.Leaf.{Leaf}

-- the entry at a place of a leaf
abbrev pub entry_at_spot : NodeShape → List (List ℕ) → LeafSpot → List ℕ
entry_at_spot shape list spot = slice_index_or (leaf_entries shape (slice_index_or list spot.page []))
    spot.place []

abbrev pub entries_at : NodeShape → List (List ℕ) → List LeafSpot → List (List ℕ)
entries_at shape list = map (entry_at_spot shape list)

-- the page is a leaf that has an entry there
pub record IsSpotThere (shape : NodeShape) (list : List (List ℕ)) (spot : LeafSpot) : Type 0 where
  pub page : spot.page < length list
  pub leaf : IsLeaf shape (slice_index_or list spot.page [])
  pub place : spot.place < length (leaf_entries shape (slice_index_or list spot.page []))

-- the first places of a page, so many
abbrev pub spots_below : ℕ → ℕ → List LeafSpot
spots_below page zero = []
spots_below page (suc n) = spots_below page n ++ record { page = page; place = n } ∷ []

-- the leaf is one of the pages, and has so many entries, one at least
pub record IsLeafThere (shape : NodeShape) (list : List (List ℕ)) (leaf : Leaf) : Type 0 where
  pub page : leaf.page < length list
  pub is : IsLeaf shape (slice_index_or list leaf.page [])
  pub some : 1 ≤ leaf.count
  pub many : leaf.count ≡ length (leaf_entries shape (slice_index_or list leaf.page []))

-- the places of the entries of these leaves, in order
abbrev pub spots_in : List Leaf → List LeafSpot
spots_in leaves = flat_map (λ leaf. spots_below leaf.page leaf.count) leaves

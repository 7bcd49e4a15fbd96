-- One entry or separator more in a node, part of which goes to another page where it is full.
use Rattle.std.specs.Prelude.{◌≡◌, ℕ, ◌+◌, ◌≤◌, List, [], take, length, insert, slice_index_or, Some, None}
use Rattle.std.specs.Prelude.{Option}
use Rattle.arrayvec.specs.ArrayVec.{ArrayVec}
use Rattle.tree_node.specs.declared.shape.NodeShape.{NodeShape}
use Rattle.tree_node.specs.Leaf.{IsLeaf, leaf_entries, LeafHas}
use Rattle.tree_node.specs.Inner.{IsInner, separators, children, InnerHas}
use Rattle.tree_node.specs.Split.{IsCut, IsSplit}
use Rattle.tree_node.specs.declared.separator.Separator.{Separator}
use Rattle.tree_node.specs.Fill.{least_entries}

-- two leaves have these entries, both at least half full, and the key is the first of the second one
pub record LeavesHave (shape : NodeShape) (page upper : List ℕ) (entries : List (List ℕ))
    (key : List ℕ) : Type 0 where
  pub leaf : IsLeaf shape page
  pub upper_leaf : IsLeaf shape upper
  pub middle : ℕ
  pub cut : IsCut middle entries (leaf_entries shape page) (leaf_entries shape upper)
  pub full : (least_entries shape 0 ≤ length (leaf_entries shape page))
      × (least_entries shape 0 ≤ length (leaf_entries shape upper))
  pub first : key ≡ take shape.width (slice_index_or (leaf_entries shape upper) 0 [])
  pub width : length key ≡ shape.width

-- the leaf has these entries; or, where a key is answered, two leaves have them
abbrev pub PutInLeaf : NodeShape → (page upper : List ℕ) → List (List ℕ) → Option (ArrayVec ℕ) → Type 0
PutInLeaf shape page upper entries None = LeafHas shape page entries
PutInLeaf shape page upper entries (Some key) = LeavesHave shape page upper entries key.items

-- two nodes have them, both at least half full, but for the separator between the two
pub record InnersHave (shape : NodeShape) (page upper : List ℕ) (seps : List (List ℕ)) (below : List ℕ)
    (key : List ℕ) : Type 0 where
  pub inner : IsInner shape page
  pub upper_inner : IsInner shape upper
  pub middle : ℕ
  pub split : IsSplit middle seps (separators shape page) key (separators shape upper)
  pub cut : IsCut (middle + 1) below (children shape page) (children shape upper)
  pub full : (least_entries shape 1 ≤ length (separators shape page))
      × (least_entries shape 1 ≤ length (separators shape upper))
  pub width : length key ≡ shape.width

-- the node has these separators and children; or, where a key is answered, two nodes have them
abbrev pub PutInInner : NodeShape → (page upper : List ℕ) → List (List ℕ) → List ℕ → Option (ArrayVec ℕ) → Type 0
PutInInner shape page upper seps below None = InnerHas shape page seps below
PutInInner shape page upper seps below (Some key) = InnersHave shape page upper seps below key.items

-- a separator stands at this place of an inner node, with the child to its right; or, where a key
-- is answered, two nodes have what is there then
abbrev pub PutsSeparator : NodeShape → (place : ℕ) → Separator → (page page_now upper : List ℕ)
    → Option (ArrayVec ℕ) → Type 0
PutsSeparator shape place separator page page_now upper key =
    PutInInner shape page_now upper (insert (separators shape page) place separator.key.items)
    (insert (children shape page) (place + 1) separator.child) key

-- The last two leaves of a tree that is being built.
use Rattle.std.specs.Prelude.{◌≡◌, ◌≤◌, ℕ, List, [], ◌∷◌, ◌++◌, length}
use Rattle.tree_node.specs.declared.shape.NodeShape.{NodeShape}
use Rattle.tree_node.specs.Leaf.{IsLeaf, leaf_entries, leaf_room, LeavesInOrder}
use Rattle.tree_node.specs.Fill.{least_entries}

-- the second has entries only where the first is full
pub record ArePending (shape : NodeShape) (lower upper : List ℕ) : Type 0 where
  pub first : IsLeaf shape lower
  pub second : IsLeaf shape upper
  pub order : 1 ≤ length (leaf_entries shape upper) → leaf_room shape ≤ length (leaf_entries shape lower)

-- they have one entry more, behind all
pub record TakesEntryBehind (shape : NodeShape) (entry lower upper lower_now upper_now : List ℕ) : Type 0 where
  pub pending : ArePending shape lower_now upper_now
  pub has : leaf_entries shape lower_now ++ leaf_entries shape upper_now
      ≡ leaf_entries shape lower ++ (leaf_entries shape upper ++ entry ∷ [])
  pub more : length (leaf_entries shape lower) ≤ length (leaf_entries shape lower_now)

-- the first is full, and the second has entries
pub record AreUneven (shape : NodeShape) (lower upper : List ℕ) : Type 0 where
  pub first : IsLeaf shape lower
  pub second : IsLeaf shape upper
  pub full : leaf_room shape ≤ length (leaf_entries shape lower)
  pub some : 1 ≤ length (leaf_entries shape upper)

-- both have at least as many as a leaf must have, together those that they had
pub record AreEven (shape : NodeShape) (lower upper lower_now upper_now : List ℕ) : Type 0 where
  pub in_order : LeavesInOrder shape lower upper lower_now upper_now
  pub enough : (least_entries shape 0 ≤ length (leaf_entries shape lower_now))
      × (least_entries shape 0 ≤ length (leaf_entries shape upper_now))

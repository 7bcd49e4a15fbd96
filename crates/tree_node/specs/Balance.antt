-- Two nodes side by side below one node: one of them takes from the other, or they become one.
use Rattle.std.specs.Prelude.{◌≡◌, ℕ, zero, suc, ◌+◌, ◌*◌, ◌≤◌, Bool, true, false, List, ◌∷◌, [], ◌++◌, take}
use Rattle.std.specs.Prelude.{length, remove, slice_set, slice_index_or, Some, None, Option}
use Rattle.tree_node.specs.declared.shape.NodeShape.{NodeShape}
use Rattle.tree_node.specs.Leaf.{IsLeaf, leaf_entries, leaf_room, LeavesInOrder}
use Rattle.tree_node.specs.Inner.{IsInner, separators, children, InnersInOrder}
use Rattle.tree_node.specs.Fill.{least_entries}

-- the separator at this place left, and the child to its right
pub record LosesSeparator (shape : NodeShape) (at : ℕ) (old new : List ℕ) : Type 0 where
  pub inner : IsInner shape new
  pub separator : separators shape new ≡ remove (separators shape old) at
  pub below : children shape new ≡ remove (children shape old) (at + 1)

-- the separator at this place is another one
pub record ChangesSeparator (shape : NodeShape) (at : ℕ) (key old new : List ℕ) : Type 0 where
  pub inner : IsInner shape new
  pub separator : separators shape new ≡ slice_set (separators shape old) at key
  pub below : children shape new ≡ children shape old

-- the first key of a leaf
abbrev pub first_key : NodeShape → List ℕ → List ℕ
first_key shape page = take shape.width (slice_index_or (leaf_entries shape page) 0 [])

-- so many entries went over to the leaf to the left, or to the one to the right
pub record FillsLeftLeaf (shape : NodeShape) (n : ℕ) (left right left_now right_now : List ℕ) : Type 0 where
  pub in_order : LeavesInOrder shape left right left_now right_now
  pub more : length (leaf_entries shape left_now) ≡ length (leaf_entries shape left) + n

pub record FillsRightLeaf (shape : NodeShape) (n : ℕ) (left right left_now right_now : List ℕ) : Type 0 where
  pub in_order : LeavesInOrder shape left right left_now right_now
  pub more : length (leaf_entries shape right_now) ≡ length (leaf_entries shape right) + n

-- a child went over to the inner node to the left, or to the one to the right
pub record FillsLeftInner (shape : NodeShape) (between key left right left_now right_now : List ℕ) : Type 0 where
  pub in_order : InnersInOrder shape between key left right left_now right_now
  pub more : length (separators shape left_now) ≡ length (separators shape left) + 1

pub record FillsRightInner (shape : NodeShape) (between key left right left_now right_now : List ℕ) : Type 0 where
  pub in_order : InnersInOrder shape between key left right left_now right_now
  pub more : length (separators shape right_now) ≡ length (separators shape right) + 1

-- the first leaf has the entries of both
pub record LeavesJoined (shape : NodeShape) (left right left_now : List ℕ) : Type 0 where
  pub leaf : IsLeaf shape left_now
  pub has : leaf_entries shape left_now ≡ leaf_entries shape left ++ leaf_entries shape right

-- both leaves have entries, together those that they had, and one has at most one more than the
-- other; neither is short, where neither lacked more than one; the key is the first of the second
-- leaf
pub record LeavesShared (shape : NodeShape) (left right left_now right_now key : List ℕ) : Type 0 where
  pub lower : IsLeaf shape left_now
  pub upper : IsLeaf shape right_now
  pub has : leaf_entries shape left_now ++ leaf_entries shape right_now ≡ leaf_entries shape left
      ++ leaf_entries shape right
  pub between : key ≡ first_key shape right_now
  pub some : (1 ≤ length (leaf_entries shape left_now)) × (1 ≤ length (leaf_entries shape right_now))
  pub even : (length (leaf_entries shape left_now) ≤ length (leaf_entries shape right_now) + 1)
      × (length (leaf_entries shape right_now) ≤ length (leaf_entries shape left_now) + 1)
  pub fill : least_entries shape 0 ≤ length (leaf_entries shape left) + 1
      → least_entries shape 0 ≤ length (leaf_entries shape right) + 1
      → (least_entries shape 0 ≤ length (leaf_entries shape left_now))
      × (least_entries shape 0 ≤ length (leaf_entries shape right_now))

-- the first node has the separators and children of both, and the separator that stood between them
pub record InnersJoined (shape : NodeShape) (between left right left_now : List ℕ) : Type 0 where
  pub inner : IsInner shape left_now
  pub has : separators shape left_now ≡ separators shape left ++ between ∷ separators shape right
  pub below : children shape left_now ≡ children shape left ++ children shape right

-- both nodes have separators and children, together with the separator between them those that they had
pub record InnersShared (shape : NodeShape) (between left right left_now right_now key : List ℕ) : Type 0 where
  pub lower : IsInner shape left_now
  pub upper : IsInner shape right_now
  pub has : separators shape left_now ++ key ∷ separators shape right_now ≡ separators shape left
      ++ between ∷ separators shape right
  pub below : children shape left_now ++ children shape right_now ≡ children shape left
      ++ children shape right
  pub fill : least_entries shape 1 ≤ length (separators shape left) + 1
      → least_entries shape 1 ≤ length (separators shape right) + 1
      → (least_entries shape 1 ≤ length (separators shape left_now))
      × (least_entries shape 1 ≤ length (separators shape right_now))

-- a leaf has room for n entries of another one, which has them to give
pub record CanTake (shape : NodeShape) (n : ℕ) (page other : List ℕ) : Type 0 where
  pub leaf : IsLeaf shape page
  pub other_leaf : IsLeaf shape other
  pub some : n ≤ length (leaf_entries shape other)
  pub room : length (leaf_entries shape page) + n ≤ leaf_room shape

-- nodes with this many levels below them
abbrev pub IsNode : NodeShape → ℕ → List ℕ → Type 0
IsNode shape zero page = IsLeaf shape page
IsNode shape (suc k) page = IsInner shape page

abbrev pub count_at : NodeShape → ℕ → List ℕ → ℕ
count_at shape zero page = length (leaf_entries shape page)
count_at shape (suc k) page = length (separators shape page)

abbrev pub AreJoined : NodeShape → ℕ → (between left right left_now : List ℕ) → Type 0
AreJoined shape zero between left right left_now = LeavesJoined shape left right left_now
AreJoined shape (suc k) between left right left_now = InnersJoined shape between left right left_now

abbrev pub AreShared : NodeShape → ℕ → (between left right left_now right_now key : List ℕ) → Type 0
AreShared shape zero between left right left_now right_now key =
    LeavesShared shape left right left_now right_now key
AreShared shape (suc k) between left right left_now right_now key =
    InnersShared shape between left right left_now right_now key

-- a node and two of its children with k levels below these, where the two share what they have
pub record Shares (shape : NodeShape) (k at : ℕ) (node left right node_now left_now right_now : List ℕ) : Type
    0 where
  pub key : List ℕ
  pub parent : ChangesSeparator shape at key node node_now
  pub pair : AreShared shape k (slice_index_or (separators shape node) at []) left right left_now right_now
      key

-- a node and two of its children, which become one
pub record Joins (shape : NodeShape) (k at : ℕ) (node left right node_now left_now : List ℕ) : Type 0 where
  pub parent : LosesSeparator shape at node node_now
  pub pair : AreJoined shape k (slice_index_or (separators shape node) at []) left right left_now

-- `Some(true)`: they became one; `Some(false)`: they share; and `None` only where one of them is no
-- such node, or both have enough
pub record Balances (shape : NodeShape) (k at : ℕ) (node left right node_now left_now right_now : List ℕ)
    (result : Option Bool) : Type 0 where
  pub joined : result ≡ Some true → Joins shape k at node left right node_now left_now
  pub shared : result ≡ Some false → Shares shape k at node left right node_now left_now right_now
  pub neither : result ≡ None → IsNode shape k left → IsNode shape k right
      → (count_at shape k left ≡ count_at shape k right)
      × (2 * least_entries shape k ≤ count_at shape k left + count_at shape k right)

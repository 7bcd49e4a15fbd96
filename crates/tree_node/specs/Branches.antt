-- What an edit of the separators of an inner node leaves, each with the child to its right.
use Rattle.std.specs.Prelude.{◌≡◌, ℕ, ◌+◌, ◌-◌, ◌≤◌, ◌<◌, List, ◌∷◌, drop, insert, remove}
use Rattle.tree_node.specs.declared.shape.NodeShape.{NodeShape}
use Rattle.tree_node.specs.Table.{count_of}
use Rattle.tree_node.specs.Inner.{inner_room, separators, children, IsInner, InnerHas, KeepsFirst, CanStandAt}
use Rattle.tree_node.specs.Inner.{AddsSeparators}

-- another page is the first child
pub record ChangesFirstChild (shape : NodeShape) (child : ℕ) (old new : List ℕ) : Type 0 where
  pub count : count_of new ≡ count_of old
  pub now : InnerHas shape new (separators shape old) (child ∷ drop 1 (children shape old))

-- it has one separator more, before separator `at`, with the child to its right
pub record GainsBranch (shape : NodeShape) (at : ℕ) (key : List ℕ) (child : ℕ) (old new : List ℕ) : Type 0 where
  pub count : count_of new ≡ count_of old + 1
  pub now : InnerHas shape new (insert (separators shape old) at key)
      (insert (children shape old) (at + 1) child)

-- it has lost separator `at`, and the child to its right
pub record LosesBranch (shape : NodeShape) (at : ℕ) (old new : List ℕ) : Type 0 where
  pub count : count_of new + 1 ≡ count_of old
  pub now : InnerHas shape new (remove (separators shape old) at) (remove (children shape old) (at + 1))

-- it has the first `n` separators of what it had, and the children beside them
pub record KeepsBranches (shape : NodeShape) (n : ℕ) (old new : List ℕ) : Type 0 where
  pub count : count_of new ≡ n
  pub now : KeepsFirst shape n old new

-- it has room for the separators of another node from separator `n` on
pub record CanAddBranches (shape : NodeShape) (other : List ℕ) (n : ℕ) (page : List ℕ) : Type 0 where
  pub inner : IsInner shape page
  pub from : IsInner shape other
  pub start : n ≤ count_of other
  pub room : count_of page + (count_of other - n) ≤ inner_room shape

-- they stand behind its own
pub record AddsBranches (shape : NodeShape) (from : List ℕ) (start : ℕ) (old new : List ℕ) : Type 0 where
  pub count : count_of new ≡ count_of old + (count_of from - start)
  pub now : AddsSeparators shape from start old new

-- it has room for a child in front of the others, with a separator of this tree key behind it
pub record CanGainInFront (shape : NodeShape) (key page : List ℕ) : Type 0 where
  pub place : CanStandAt shape 0 key page
  pub room : count_of page < inner_room shape

-- it has that child
pub record GainsInFront (shape : NodeShape) (key : List ℕ) (child : ℕ) (old new : List ℕ) : Type 0 where
  pub count : count_of new ≡ count_of old + 1
  pub now : InnerHas shape new (key ∷ separators shape old) (child ∷ children shape old)

-- it has lost the first child and the separator behind it
pub record LosesInFront (shape : NodeShape) (old new : List ℕ) : Type 0 where
  pub count : count_of new + 1 ≡ count_of old
  pub now : InnerHas shape new (drop 1 (separators shape old)) (drop 1 (children shape old))

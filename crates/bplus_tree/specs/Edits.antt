-- Edits of entries in order.
use Rattle.std.specs.Prelude.{◌≡◌, ℕ, List, [], ◌∷◌, take, not, filter, if◌then◌else◌, bytes_eq}
use Rattle.tree_node.specs.Order.{less}
use Rattle.tree_node.specs.declared.shape.NodeShape.{NodeShape}
use Rattle.tree_node.specs.Leaf.{IsLeaf, leaf_entries}

-- the entries with one more, at the place of its key
abbrev pub with_entry : ℕ → List ℕ → List (List ℕ) → List (List ℕ)
with_entry width e [] = e ∷ []
with_entry width e (x ∷ xs) = if less (take width x)
    (take width e) then x ∷ with_entry width e xs else e ∷ x ∷ xs

-- the bytes are a leaf of these entries
pub record IsLeafOf (shape : NodeShape) (entries : List (List ℕ)) (page : List ℕ) : Type 0 where
  pub leaf : IsLeaf shape page
  pub holds : leaf_entries shape page ≡ entries

-- the entries but those of this key
abbrev pub without_key : ℕ → List ℕ → List (List ℕ) → List (List ℕ)
without_key width key = filter (λ e. not (bytes_eq (take width e) key))

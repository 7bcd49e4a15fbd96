-- Keys of a node that rise between two bounds.
use Rattle.std.specs.Prelude.{◌≡◌, ◌⊎◌, ◌<◌, ℕ, suc, List, [], ◌∷◌, length, take, drop, slice_index_or}
use Rattle.std.specs.Prelude.{Option, Some, ⊤}
use Rattle.std.specs.Option.{option_copied}
use Rattle.std.specs.Borrow.{Bor}
use Rattle.pages.specs.Each.{Each}
use Rattle.tree_node.specs.declared.shape.NodeShape.{NodeShape}
use Rattle.tree_node.specs.Leaf.{leaf_entries}
use Rattle.tree_node.specs.Inner.{separators}
use Rattle.tree_node.specs.Order.{Ascends}
use Rattle.tree_search.specs.Tree.{Bound, NotBelow, Above, Below}

-- separators rise, and lie above the low bound and below the high one
abbrev pub AreBetween : Bound → List (List ℕ) → Bound → Type 0
AreBetween low [] high = ⊤
AreBetween low (s ∷ ss) high = Above low s × Below high s × AreBetween (Some s) ss high

-- so are those of an inner node's page
abbrev pub AreSeparatorsBetween : NodeShape → List ℕ → (low high : Option (Bor (List ℕ))) → Type 0
AreSeparatorsBetween shape page low high =
    AreBetween (option_copied low) (separators shape page) (option_copied high)

-- the keys of these entries lie from the low bound on and below the high one
abbrev pub AreKeysInside : ℕ → Bound → Bound → List (List ℕ) → Type 0
AreKeysInside width low high = Each (λ e. NotBelow low (take width e) × Below high (take width e))

-- so do those of a leaf's page
abbrev pub AreLeafKeysInside : NodeShape → List ℕ → (low high : Option (Bor (List ℕ))) → Type 0
AreLeafKeysInside shape page low high =
    AreKeysInside shape.width (option_copied low) (option_copied high) (leaf_entries shape page)

-- the first key of these entries, or else the bound behind them
abbrev pub key_ahead : ℕ → List (List ℕ) → Bound → Bound
key_ahead width [] high = high
key_ahead width (e ∷ es) high = Some (take width e)

-- the entries from number i on rise below the high bound, and `above` is the first key of them, or
-- else that bound
pub record Risen (width : ℕ) (high : Bound) (es : List (List ℕ)) (i : ℕ) (above : Bound) : Type 0 where
  pub rises : Ascends width (drop i es)
  pub under : Each (λ e. Below high (take width e)) (drop i es)
  pub ahead : above ≡ key_ahead width (drop i es) high

-- Key i of these entries is not below the one behind it, or the high bound where none is; or it is the
-- first one, and does not stand as it should to the low bound.
abbrev pub IsAstray : (Bound → List ℕ → Type 0) → ℕ → (low high : Bound) → List (List ℕ) → ℕ → Type 0
IsAstray Stands width low high es i = (i < length es)
    × ((Below (key_ahead width (drop (suc i) es) high) (take width (slice_index_or es i [])) → ⊥)
    ⊎ ((i ≡ 0) × (Stands low (take width (slice_index_or es i [])) → ⊥)))

-- so is key i of a leaf's page
abbrev pub IsLeafKeyAstray : NodeShape → List ℕ → (low high : Option (Bor (List ℕ))) → ℕ → Type 0
IsLeafKeyAstray shape page low high i =
    IsAstray NotBelow shape.width (option_copied low) (option_copied high) (leaf_entries shape page) i

-- so is separator i of an inner node's page
abbrev pub IsSeparatorAstray : NodeShape → List ℕ → (low high : Option (Bor (List ℕ))) → ℕ → Type 0
IsSeparatorAstray shape page low high i =
    IsAstray Above shape.width (option_copied low) (option_copied high) (separators shape page) i

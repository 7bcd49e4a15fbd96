-- The search for an entry of the prime index by its value.
use Rattle.std.specs.Prelude.{◌≡◌, ℕ, ◌+◌, ◌-◌, ◌<◌, ◌≤◌, true, false, List, [], length, take}
use Rattle.std.specs.Prelude.{slice_index_or, Option, Some}
use Rattle.pages.specs.Each.{Each}
use Rattle.tree_node.specs.declared.shape.NodeShape.{NodeShape}
use Rattle.tree_node.specs.Leaf.{leaf_entries}
use Rattle.tree_node.specs.Order.{less, Ascends}
use Rattle.page_walks.specs.declared.spot.LeafSpot.{LeafSpot}
use Rattle.page_walks.specs.declared.leaf.Leaf.{Leaf}
use Rattle.page_walks.specs.Spots.{IsLeafThere, IsSpotThere, entry_at_spot, spots_in}
use Rattle.record_heap.specs.Chain.{IsOneOf}
use Rattle.open_file.specs.Fields.{prime_index_of}
use Rattle.open_file.specs.declared.open_file.OpenFile.{OpenFile}
use Rattle.bplus_tree.specs.Fields.{tree_shape}
use Rattle.file_checker.specs.Rows.{EntriesRise, prime_at}

-- the value of an entry of the prime index
abbrev pub value_at : OpenFile → List (List ℕ) → LeafSpot → List ℕ
value_at opened list spot = take (prime_index_of opened).width (prime_at opened list spot)

-- the leaf is one of the prime index, as it was read
abbrev pub IsPrimeLeaf : OpenFile → List (List ℕ) → Leaf → Type 0
IsPrimeLeaf opened list leaf = IsLeafThere (tree_shape (prime_index_of opened).tree) list leaf

-- an entry of the prime index stands there
abbrev pub IsPrimeSpot : OpenFile → List (List ℕ) → LeafSpot → Type 0
IsPrimeSpot opened list spot = IsSpotThere (tree_shape (prime_index_of opened).tree) list spot

-- the value of its last entry
abbrev pub last_value : OpenFile → List (List ℕ) → Leaf → List ℕ
last_value opened list leaf = value_at opened list (record { page = leaf.page; place = leaf.count - 1 })

-- leaf number i of these
abbrev pub leaf_at : List Leaf → ℕ → Leaf
leaf_at leaves i = slice_index_or leaves i (record { page = 0; count = 0 })

-- the entries of the leaf end with a value below this one
abbrev pub EndsBefore : OpenFile → List (List ℕ) → List ℕ → Leaf → Type 0
EndsBefore opened list value leaf = IsPrimeLeaf opened list leaf
    → less (last_value opened list leaf) value ≡ true

-- they do not
abbrev pub EndsFrom : OpenFile → List (List ℕ) → List ℕ → Leaf → Type 0
EndsFrom opened list value leaf = IsPrimeLeaf opened list leaf
    → less (last_value opened list leaf) value ≡ false

-- the leaf before number i ends before the value, and number i does not
pub record IsNear (opened : OpenFile) (list : List (List ℕ)) (leaves : List Leaf) (value : List ℕ)
    (i : ℕ) : Type 0 where
  pub within : i ≤ length leaves
  pub before : (k : ℕ) → i ≡ k + 1 → EndsBefore opened list value (leaf_at leaves k)
  pub from : i < length leaves → EndsFrom opened list value (leaf_at leaves i)

-- where the leaf is there, and its keys rise, the entry of a key that it has is found
abbrev pub FindsKeyInLeaf : NodeShape → List (List ℕ) → Leaf → List ℕ → Option LeafSpot → Type 0
FindsKeyInLeaf shape list leaf key found = IsLeafThere shape list leaf
    → Ascends shape.width (leaf_entries shape (slice_index_or list leaf.page []))
    → (place : ℕ) → place < leaf.count
    → take shape.width (entry_at_spot shape list (record { page = leaf.page; place = place })) ≡ key
    → found ≡ Some (record { page = leaf.page; place = place })

-- where the leaves are there, and the values of their entries rise, the entry of a value that one of
-- them has is found
abbrev pub FindsEntry : OpenFile → List (List ℕ) → List Leaf → List ℕ → Option LeafSpot → Type 0
FindsEntry opened list leaves value found = Each (IsPrimeLeaf opened list) leaves
    → EntriesRise opened list (spots_in leaves)
    → (spot : LeafSpot) → IsOneOf (spots_in leaves) spot → value_at opened list spot ≡ value → found ≡ Some spot

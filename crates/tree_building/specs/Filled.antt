-- How full the nodes of a tree are that was built.
use Rattle.std.specs.Prelude.{◌≡◌, ◌≤◌, ◌+◌, ℕ, zero, suc, List, ◌++◌, map, flat_map, length}
use Rattle.tree_node.specs.declared.shape.NodeShape.{NodeShape}
use Rattle.tree_node.specs.Leaf.{leaf_room}
use Rattle.tree_node.specs.Inner.{inner_room}
use Rattle.pages.specs.Each.{Each}
use Rattle.tree_search.specs.Tree.{TreeOf}

-- each of these numbers is the greatest one, but for so many at most at the end
pub record AllBut (count greatest : ℕ) (numbers : List ℕ) : Type 0 where
  pub front : List ℕ
  pub last : List ℕ
  pub are : numbers ≡ front ++ last
  pub few : length last ≤ count
  pub full : Each (λ n. n ≡ greatest) front

-- how many entries each of these leaves has
abbrev pub entry_counts : List (TreeOf 0) → List ℕ
entry_counts leaves = map (λ (t : TreeOf 0). length t.1) leaves

-- how many children each of these inner nodes has
abbrev pub child_counts : (h : ℕ) → List (TreeOf (suc h)) → List ℕ
child_counts h nodes = map (λ (t : TreeOf (suc h)). length t.2) nodes

-- In each level of these trees, side by side, all nodes but the last two have as many entries, or
-- children, as there is room for.
abbrev pub AreFilled : NodeShape → (h : ℕ) → List (TreeOf h) → Type 0
AreFilled shape zero trees = AllBut 2 (leaf_room shape) (entry_counts trees)
AreFilled shape (suc h) trees = AllBut 2 (inner_room shape + 1) (child_counts h trees)
    × AreFilled shape h (flat_map (λ (t : TreeOf (suc h)). t.2) trees)

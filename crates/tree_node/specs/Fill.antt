-- How full the nodes of a tree are.
use Rattle.std.specs.Prelude.{ℕ, zero, suc, ◌/◌}
use Rattle.tree_node.specs.declared.shape.NodeShape.{NodeShape}
use Rattle.tree_node.specs.Leaf.{leaf_room}
use Rattle.tree_node.specs.Inner.{inner_room}

-- how many entries a leaf must have that is not the root, or separators a node with so many levels below it
abbrev pub least_entries : NodeShape → ℕ → ℕ
least_entries shape zero = leaf_room shape / 2
least_entries shape (suc h) = inner_room shape / 2

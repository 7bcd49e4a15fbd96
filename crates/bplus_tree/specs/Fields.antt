-- What is said above of the fields of a tree, and of a cursor.
use Rattle.std.specs.Prelude.{ℕ, ◌<◌, List}
use Rattle.tree_node.specs.declared.shape.NodeShape.{NodeShape}
use Rattle.bplus_tree.specs.declared.tree.Tree.{Tree}
use Rattle.bplus_tree.specs.declared.cursor.Cursor.{Cursor}

abbrev pub tree_shape : Tree → NodeShape
tree_shape tree = tree.shape

-- of its keys, in bytes
abbrev pub key_width : Tree → ℕ
key_width tree = tree.shape.width

abbrev pub tree_root : Tree → ℕ
tree_root tree = tree.root

-- above the leaves
abbrev pub tree_levels : Tree → ℕ
tree_levels tree = tree.levels

abbrev pub tree_count : Tree → ℕ
tree_count tree = tree.count

-- the tree that a header tells of
abbrev pub tree_with : NodeShape → (root levels count : ℕ) → levels < 20 → Tree
tree_with shape root levels count low = record {
  shape = shape;
  root = root;
  levels = levels;
  count = count;
  changes = 0;
  low = low;
}

abbrev pub cursor_key : Cursor → List ℕ
cursor_key cursor = cursor.key.items

use Rattle.std.proofs.Common.{◌≤◌, length}
use Rattle.std.specs.Option.{option_copied}
use Rattle.tree_node.specs.Leaf.{leaf_entries}
use Rattle.page_walks.specs.Order.{Risen}
use Rattle.page_walks.proofs.order.check_keys.Given as goal

abbrev pub invariant-keys : goal.invariant-keys
invariant-keys l = record {
  within : l.i ≤ length (leaf_entries l.fn.shape l.page);
  risen : Risen l.fn.shape.width (option_copied l.high) (leaf_entries l.fn.shape l.page) l.i (option_copied l.above);
}

abbrev pub decreases-keys : goal.decreases-keys
decreases-keys l = l.i

use Rattle.std.proofs.Common.{◌≡◌, ◌+◌, length}
use Rattle.tree_node.specs.Leaf.{leaf_entries, LeavesInOrder}
use Rattle.tree_node.proofs.neighbours.fill_right_leaf.Given as goal

-- so many entries went over
abbrev pub invariant-loop : goal.invariant-loop
invariant-loop l = LeavesInOrder l.fn.shape l.fn.left l.fn.right l.left l.right
    × (length (leaf_entries l.fn.shape l.right) ≡ length (leaf_entries l.fn.shape l.fn.right) + l.counter)

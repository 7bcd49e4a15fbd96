use Rattle.std.proofs.Common.{◌≡◌, ◌+◌, length}
use Rattle.tree_node.specs.Leaf.{leaf_entries, LeavesInOrder}
use Rattle.tree_building.proofs.pending.move_back.Given as goal

-- so many entries went over
abbrev pub invariant-loop : goal.invariant-loop
invariant-loop l = LeavesInOrder l.fn.shape l.fn.lower l.fn.upper l.lower l.upper
    × (length (leaf_entries l.fn.shape l.upper) ≡ length (leaf_entries l.fn.shape l.fn.upper) + l.counter)

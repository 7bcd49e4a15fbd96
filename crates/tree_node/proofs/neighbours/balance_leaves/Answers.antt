use Rattle.std.proofs.Common.{arith}
use Rattle.tree_node.proofs.BalanceLemmas.{left_filled, right_filled, only_shared}
use Rattle.tree_node.proofs.neighbours.balance_leaves.Goals as goal

pub returns-then-lower-upper-2 : goal.returns-then-lower-upper-2
returns-then-lower-upper-2 c =
    only_shared c.args.shape 0 c.args.at c.args.node.now c.args.left.now c.args.right.now _ _ _ _ c.lead.ensures
    (left_filled c.args.shape c.div_ceil.result c.args.left.now c.args.right.now c.fill_left_leaf.new.left c.fill_left_leaf.new.right
    c.fill_left_leaf.ensures.in_order c.fill_left_leaf.ensures.more (omega arith, omega arith, omega arith) (omega arith))

pub returns-then-upper-lower : goal.returns-then-upper-lower
returns-then-upper-lower c =
    only_shared c.args.shape 0 c.args.at c.args.node.now c.args.left.now c.args.right.now _ _ _ _ c.lead-then-upper-lower.ensures
    (right_filled c.args.shape c.div_ceil-then-upper-lower.result c.args.left.now c.args.right.now c.fill_right_leaf.new.left c.fill_right_leaf.new.right
    c.fill_right_leaf.ensures.in_order c.fill_right_leaf.ensures.more (omega arith, omega arith, omega arith) (omega arith))

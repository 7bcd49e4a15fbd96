use Rattle.tree_node.proofs.BalanceLemmas.{above_leaves}
use Rattle.tree_node.proofs.neighbours.balance.Goals as goal

pub returns-else-levels-eq0 : goal.returns-else-levels-eq0
returns-else-levels-eq0 c =
    above_leaves c.args.shape c.args.levels c.args.at c.args.node.now c.args.left.now c.args.right.now _ _ _ c.balance_inners.result c.if-levels-eq0.false c.balance_inners.ensures

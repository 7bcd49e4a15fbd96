use Rattle.tree_building.proofs.NodeLemmas.{on_ok, wide_still}
use Rattle.tree_building.proofs.leaves.add_leaf.Goals as goal

pub returns-clause-width : goal.returns-clause-width
returns-clause-width g c =
    on_ok c.push_node.result (λ keys old. wide_still c.args.shape c.args.before.now.items c.push_node.new.nodes.items c.key.result.now c.key.ensures.len keys old)
    c.push_node.ensures.keys

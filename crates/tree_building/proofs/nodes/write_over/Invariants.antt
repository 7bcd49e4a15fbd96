use Rattle.std.proofs.Common.{◌∷◌, take}
use Rattle.tree_node.specs.Inner.{InnerHas}
use Rattle.tree_building.specs.Level.{keys_of, leads_to}
use Rattle.tree_building.proofs.nodes.write_over.Given as goal

-- the nodes that were gone through stand behind the first child
abbrev pub invariant-loop-node : goal.invariant-loop-node
invariant-loop-node l = InnerHas l.fn.shape l.page (keys_of (take l.node-index l.fn.rest)) (l.fn.first ∷ leads_to (take l.node-index l.fn.rest))

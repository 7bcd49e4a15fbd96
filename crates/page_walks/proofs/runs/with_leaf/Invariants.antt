use Rattle.tree_node.specs.Leaf.{leaf_entries}
use Rattle.page_walks.proofs.RunLemmas.{SoFar}
use Rattle.page_walks.proofs.runs.with_leaf.Given as goal

abbrev pub invariant-loop-i : goal.invariant-loop-i
invariant-loop-i l = SoFar l.width (leaf_entries l.fn.shape l.page) l.fn.run l.i l.run

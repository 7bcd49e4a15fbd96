use Rattle.std.proofs.Common.{◌≡◌, ◌++◌, take}
use Rattle.tree_node.specs.Inner.{children}
use Rattle.page_walks.proofs.levels.add_children.Given as goal

abbrev pub invariant-loop-i : goal.invariant-loop-i
invariant-loop-i l = l.below.items ≡ l.fn.below.items ++ take l.i (children l.fn.shape l.page)

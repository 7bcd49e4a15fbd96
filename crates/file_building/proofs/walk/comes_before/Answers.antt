use Rattle.std.proofs.Common.{ap, ◌∙◌}
use Rattle.std.specs.Ordering.{is_lt}
use Rattle.tree_node.specs.Order.{less}
use Rattle.file_building.proofs.walk.comes_before.Goals as goal

pub returns : goal.returns
unfolding less
returns c = c.is_lt.ensures ∙ ap is_lt c.cmp.ensures

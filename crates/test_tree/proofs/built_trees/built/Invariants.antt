use Rattle.std.proofs.Common.{◌≡◌}
use Rattle.tree_building.specs.Building.{builder_shape}
use Rattle.test_tree.proofs.built_trees.built.Given as goal

-- the entries stay as long as the shape says
abbrev pub invariant-loop-number : goal.invariant-loop-number
invariant-loop-number g l = (builder_shape l.builder).entry ≡ 127

use Rattle.std.proofs.Common.{◌≡◌}
use Rattle.bplus_tree.specs.Fields.{tree_shape}
use Rattle.benchmarks.proofs.trees.calls.insert_all.Given as goal

abbrev pub invariant-loop-entry : goal.invariant-loop-entry
invariant-loop-entry g l = g.P.Pages.shown.Writes l.initial.pages l.pages × (tree_shape l.tree ≡ tree_shape l.initial.tree)

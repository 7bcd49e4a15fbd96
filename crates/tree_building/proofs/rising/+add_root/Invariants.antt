use Rattle.std.proofs.Common.{length}
use Rattle.tree_building.proofs.rising.+add_root.Given as goal

abbrev pub decreases-add_root : goal.decreases-add_root
decreases-add_root g l = length l.nodes.now

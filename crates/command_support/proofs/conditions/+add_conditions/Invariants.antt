use Rattle.std.proofs.Common.{length}
use Rattle.command_support.proofs.conditions.+add_conditions.Given as goal

abbrev pub decreases-add_conditions : goal.decreases-add_conditions
decreases-add_conditions l = length l.words.now

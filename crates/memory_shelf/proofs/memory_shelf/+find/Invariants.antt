use Rattle.std.proofs.Common.{length}
use Rattle.memory_shelf.proofs.memory_shelf.+find.Given as goal

abbrev pub decreases-find : goal.decreases-find
decreases-find l = length l.files.now

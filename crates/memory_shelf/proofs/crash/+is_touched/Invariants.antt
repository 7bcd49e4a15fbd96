use Rattle.std.proofs.Common.{length}
use Rattle.memory_shelf.proofs.crash.+is_touched.Given as goal

abbrev pub decreases-is_touched : goal.decreases-is_touched
decreases-is_touched l = length l.log.now

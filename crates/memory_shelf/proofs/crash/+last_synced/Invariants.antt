use Rattle.std.proofs.Common.{length}
use Rattle.memory_shelf.proofs.crash.+last_synced.Given as goal

abbrev pub decreases-last_synced : goal.decreases-last_synced
decreases-last_synced l = length l.log.now

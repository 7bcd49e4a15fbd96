use Rattle.std.proofs.Common.{length}
use Rattle.streams.proofs.foreign.foreign_in.Given as goal

abbrev pub decreases-more : goal.decreases-more
decreases-more l = length l.rest

use Rattle.std.proofs.Common.{length}
use Rattle.record_layout.proofs.parts.+rise.Given as goal

abbrev pub decreases-rise : goal.decreases-rise
decreases-rise l = length l.alternates.now

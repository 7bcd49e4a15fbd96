use Rattle.std.proofs.Common.{◌-◌}
use Rattle.streams.proofs.foreign.ForeignLines.first_in.Given as goal

abbrev pub decreases-lines : goal.decreases-lines
decreases-lines l = l.number - l.self.number

use Rattle.std.proofs.Common.{◌≤◌, ◌-◌, length}
use Rattle.streams.proofs.foreign.line_length.Given as goal

abbrev pub invariant-more : goal.invariant-more
invariant-more l = l.at ≤ length l.text

abbrev pub decreases-more : goal.decreases-more
decreases-more l = length l.text - l.at

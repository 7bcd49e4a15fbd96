use Rattle.std.proofs.Common.{◌≤◌, ◌-◌, length, take}
use Rattle.streams.specs.LinesIn.{IsWithinLine}
use Rattle.streams.proofs.line.line_length.Given as goal

abbrev pub invariant-more : goal.invariant-more
invariant-more l = (l.at ≤ length l.bytes) × IsWithinLine (take l.at l.bytes)

abbrev pub decreases-more : goal.decreases-more
decreases-more l = length l.bytes - l.at

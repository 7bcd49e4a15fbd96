use Rattle.std.proofs.Common.{◌≡◌, ◌++◌, length}
use Rattle.streams.specs.InAscii.{in_ascii}
use Rattle.streams.proofs.to_ascii.in_ascii.Given as goal

-- what is left as a list in ASCII stands behind what was added
abbrev pub invariant-more : goal.invariant-more
invariant-more l = l.list.items ++ in_ascii l.backslashes l.rest ≡ in_ascii l.backslashes l.fn.text

abbrev pub decreases-more : goal.decreases-more
decreases-more l = length l.rest

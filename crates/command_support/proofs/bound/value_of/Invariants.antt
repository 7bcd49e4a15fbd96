use Rattle.std.proofs.Common.{◌≡◌, ◌++◌, length}
use Rattle.command_support.specs.Bound.{unescaped}
use Rattle.command_support.proofs.bound.value_of.Given as goal

-- the bytes that were read so far, and those for which the rest stands, are those of the text
abbrev pub invariant-more : goal.invariant-more
invariant-more l = record { read : l.key.items ++ unescaped l.rest ≡ unescaped l.fn.text }

abbrev pub decreases-more : goal.decreases-more
decreases-more l = length l.rest

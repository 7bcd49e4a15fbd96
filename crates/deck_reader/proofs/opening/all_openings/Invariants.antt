use Rattle.std.proofs.Common.{length}
use Rattle.deck_reader.specs.Parts.{opening}
use Rattle.deck_reader.proofs.opening.all_openings.Given as goal
use Rattle.deck_reader.proofs.JoinLemmas.{SomeGoesOn}

-- the reading goes on from the statements so far
abbrev pub invariant-more : goal.invariant-more
invariant-more l = SomeGoesOn (opening l.fn.names) l.fn.statements l.fn.parser l.statements l.parser

abbrev pub decreases-more : goal.decreases-more
decreases-more l = length l.parser

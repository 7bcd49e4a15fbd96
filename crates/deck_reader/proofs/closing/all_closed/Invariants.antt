use Rattle.std.proofs.Common.{length}
use Rattle.deck_reader.specs.Parts.{file_to_close}
use Rattle.deck_reader.proofs.closing.all_closed.Given as goal
use Rattle.deck_reader.proofs.JoinLemmas.{SomeGoesOn}

-- the reading goes on from the statements so far
abbrev pub invariant-more : goal.invariant-more
invariant-more l = SomeGoesOn (file_to_close l.fn.names) l.fn.statements l.fn.parser l.statements l.parser

abbrev pub decreases-more : goal.decreases-more
decreases-more l = length l.parser

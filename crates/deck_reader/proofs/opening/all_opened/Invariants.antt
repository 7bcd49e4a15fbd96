use Rattle.std.proofs.Common.{length}
use Rattle.deck_reader.specs.Parts.{name_to_open}
use Rattle.deck_reader.proofs.opening.all_opened.Given as goal
use Rattle.deck_reader.proofs.JoinLemmas.{SomeGoesOn}

-- the reading goes on from the statements so far
abbrev pub invariant-more : goal.invariant-more
invariant-more l = SomeGoesOn (name_to_open l.fn.names l.fn.mode) l.fn.statements l.fn.parser l.statements l.parser

abbrev pub decreases-more : goal.decreases-more
decreases-more l = length l.parser

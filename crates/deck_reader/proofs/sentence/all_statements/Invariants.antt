use Rattle.std.proofs.Common.{length}
use Rattle.deck_reader.specs.Procedure.{statement}
use Rattle.deck_reader.proofs.sentence.all_statements.Given as goal
use Rattle.deck_reader.proofs.JoinLemmas.{SomeGoesOn}

-- the reading goes on from the statements so far
abbrev pub invariant-more : goal.invariant-more
invariant-more l = SomeGoesOn (statement l.fn.names) l.fn.statements l.fn.parser l.statements l.parser

abbrev pub decreases-more : goal.decreases-more
decreases-more l = length l.parser

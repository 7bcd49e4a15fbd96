use Rattle.std.proofs.Common.{length}
use Rattle.record_layout.specs.Area.{sent}
use Rattle.deck_reader.specs.StatementRules.{receiver}
use Rattle.deck_reader.proofs.moving.all_receivers.Given as goal
use Rattle.deck_reader.proofs.JoinLemmas.{SomeGoesOn}

-- the reading goes on from the statements so far
abbrev pub invariant-more : goal.invariant-more
invariant-more l = SomeGoesOn (receiver l.fn.names l.fn.places.line (sent l.fn.source)) l.fn.statements l.fn.parser l.statements l.parser

abbrev pub decreases-more : goal.decreases-more
decreases-more l = length l.parser

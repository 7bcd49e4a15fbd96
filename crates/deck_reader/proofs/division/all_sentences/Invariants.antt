use Rattle.std.proofs.Common.{length}
use Rattle.deck_parser.specs.Rule.{onto, stops_again}
use Rattle.deck_reader.specs.Parts.{paragraph_or_sentence}
use Rattle.deck_reader.specs.Placed.{nothing_placed}
use Rattle.deck_reader.specs.StatementRules.{joined_statements}
use Rattle.deck_reader.proofs.division.all_sentences.Given as goal
use Rattle.deck_reader.proofs.JoinLemmas.{GoesOn}

-- the reading goes on from the statements so far
abbrev pub invariant-more : goal.invariant-more
invariant-more l = GoesOn (paragraph_or_sentence l.fn.names) ((onto joined_statements nothing_placed (paragraph_or_sentence l.fn.names)).reads l.fn.parser) (stops_again (paragraph_or_sentence l.fn.names) l.fn.parser) l.statements l.parser

abbrev pub decreases-more : goal.decreases-more
decreases-more l = length l.parser

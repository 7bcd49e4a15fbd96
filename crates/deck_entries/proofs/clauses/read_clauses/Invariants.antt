use Rattle.std.proofs.Common.{length}
use Rattle.deck_parser.specs.Rule.{any_behind}
use Rattle.deck_parser.proofs.TurnLemmas.{GoesOn}
use Rattle.deck_entries.specs.FileDescription.{description_clause, no_clauses}
use Rattle.deck_entries.proofs.clauses.read_clauses.Given as goal

-- the reading goes on from the clauses so far
abbrev pub invariant-more : goal.invariant-more
invariant-more l = GoesOn description_clause ((any_behind description_clause no_clauses).reads l.fn.parser) ((any_behind description_clause no_clauses).stops l.fn.parser) l.clauses l.parser

abbrev pub decreases-more : goal.decreases-more
decreases-more l = length l.parser

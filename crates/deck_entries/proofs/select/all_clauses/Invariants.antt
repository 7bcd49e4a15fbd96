use Rattle.std.proofs.Common.{length}
use Rattle.deck_parser.specs.Rule.{each_behind}
use Rattle.deck_parser.proofs.TurnLemmas.{GoesOn}
use Rattle.deck_entries.specs.FileControlEntry.{clause, no_clauses}
use Rattle.deck_entries.proofs.select.all_clauses.Given as goal

-- the reading goes on from the clauses so far
abbrev pub invariant-more : goal.invariant-more
invariant-more l = GoesOn clause ((each_behind clause no_clauses).reads l.fn.parser) ((each_behind clause no_clauses).stops l.fn.parser) l.clauses l.parser

abbrev pub decreases-more : goal.decreases-more
decreases-more l = length l.parser

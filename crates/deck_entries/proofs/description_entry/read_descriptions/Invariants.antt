use Rattle.std.proofs.Common.{[], length}
use Rattle.deck_parser.specs.Rule.{each_behind}
use Rattle.deck_parser.proofs.TurnLemmas.{GoesOn}
use Rattle.deck_entries.specs.Divisions.{more_description}
use Rattle.deck_entries.proofs.description_entry.read_descriptions.Given as goal

-- the reading goes on from the ones so far
abbrev pub invariant-more : goal.invariant-more
invariant-more l = GoesOn (more_description l.fn.entries) ((each_behind (more_description l.fn.entries) []).reads l.fn.parser) ((each_behind (more_description l.fn.entries) []).stops l.fn.parser) l.read l.parser

abbrev pub decreases-more : goal.decreases-more
decreases-more l = length l.parser

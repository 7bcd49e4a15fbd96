use Rattle.std.proofs.Common.{[], length}
use Rattle.deck_parser.specs.Rule.{each_behind}
use Rattle.deck_parser.proofs.TurnLemmas.{GoesOn}
use Rattle.deck_entries.specs.Divisions.{more_entry}
use Rattle.deck_entries.proofs.divisions.read_entries.Given as goal

-- the reading goes on from the ones so far
abbrev pub invariant-more : goal.invariant-more
invariant-more l = GoesOn more_entry ((each_behind more_entry []).reads l.fn.parser) ((each_behind more_entry []).stops l.fn.parser) l.read l.parser

abbrev pub decreases-more : goal.decreases-more
decreases-more l = length l.parser

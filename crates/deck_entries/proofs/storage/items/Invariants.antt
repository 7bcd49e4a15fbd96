use Rattle.std.proofs.Common.{[], length}
use Rattle.deck_parser.specs.Rule.{any_behind}
use Rattle.deck_parser.proofs.TurnLemmas.{GoesOn}
use Rattle.deck_entries.specs.FileDescription.{more_storage}
use Rattle.deck_entries.proofs.storage.items.Given as goal

-- the reading goes on from the items so far
abbrev pub invariant-more : goal.invariant-more
invariant-more l = GoesOn more_storage ((any_behind more_storage []).reads l.fn.parser) ((any_behind more_storage []).stops l.fn.parser) l.items l.parser

abbrev pub decreases-more : goal.decreases-more
decreases-more l = length l.parser

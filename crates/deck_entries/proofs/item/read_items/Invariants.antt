use Rattle.std.proofs.Common.{[], length}
use Rattle.deck_parser.specs.Rule.{each_behind}
use Rattle.deck_parser.proofs.TurnLemmas.{GoesOn}
use Rattle.deck_entries.specs.FileDescription.{more_item}
use Rattle.deck_entries.proofs.item.read_items.Given as goal

-- the reading goes on from the items so far
abbrev pub invariant-more : goal.invariant-more
invariant-more l = GoesOn more_item ((each_behind more_item []).reads l.fn.parser) ((each_behind more_item []).stops l.fn.parser) l.items l.parser

abbrev pub decreases-more : goal.decreases-more
decreases-more l = length l.parser

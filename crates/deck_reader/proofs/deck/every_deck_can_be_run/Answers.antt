use Rattle.deck_reader.proofs.DeckLemmas.{can_be_run}
use Rattle.deck_reader.proofs.deck.every_deck_can_be_run.Goals as goal

pub returns : goal.returns
returns c = can_be_run c.are_described.ensures c.only_allowed.ensures

use Rattle.deck_reader.proofs.DeckLemmas.{one_spelling}
use Rattle.deck_reader.proofs.deck.no_words_are_two_decks.Goals as goal

pub returns : goal.returns
returns c = one_spelling c.one_description.ensures c.one_procedure.ensures

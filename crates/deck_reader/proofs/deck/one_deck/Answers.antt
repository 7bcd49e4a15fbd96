use Rattle.std.proofs.Common.{subst}
use Rattle.deck_reader.specs.Deck.{Spells}
use Rattle.deck_reader.proofs.deck.one_deck.Goals as goal

pub returns : goal.returns
returns c =
    λ bytes a b d e. c.no_words_are_two_decks.ensures e.0 a b
    (subst (λ words. Spells words a) (c.one_reading.ensures.words bytes d.0 e.0 d.1 e.1) d.2) e.2

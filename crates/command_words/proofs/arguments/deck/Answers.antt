use Rattle.command_words.proofs.arguments.deck.Goals as goal

pub returns : goal.returns
returns c = c.word.ensures

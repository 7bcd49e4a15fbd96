use Rattle.command_words.proofs.subcommands.with_bounds.Goals as goal

pub returns : goal.returns
returns c =
    λ app is. c.with_values.ensures _ (c.with_argument.ensures _ _ is c.key_word-key.ensures)

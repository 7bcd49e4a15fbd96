use Rattle.command_words.proofs.subcommands.with_values.Goals as goal

pub returns : goal.returns
returns c =
    λ app is. c.with_argument.ensures _ _ (c.with_argument-begun.ensures _ _ is c.text-from.ensures) c.text-to.ensures

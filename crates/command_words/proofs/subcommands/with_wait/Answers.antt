use Rattle.command_words.proofs.subcommands.with_wait.Goals as goal

pub returns : goal.returns
returns c =
    λ app is. c.with_argument.ensures _ _ is c.wait.ensures

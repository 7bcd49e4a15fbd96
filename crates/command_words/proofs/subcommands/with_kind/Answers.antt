use Rattle.command_words.proofs.subcommands.with_kind.Goals as goal

pub returns : goal.returns
returns c =
    λ app is. c.with_argument.ensures _ _ (c.with_argument-begun.ensures _ _ is c.usual.ensures) c.encoding.ensures

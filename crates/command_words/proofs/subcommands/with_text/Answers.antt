use Rattle.command_words.proofs.subcommands.with_text.Goals as goal

pub returns : goal.returns
returns c =
    λ app is.
    c.with_argument.ensures _ _ (c.with_kind-formed.ensures _ (c.with_names.ensures _ is)) c.flag-into.ensures

use Rattle.command_words.proofs.subcommands.with_form.Goals as goal

pub returns : goal.returns
returns c =
    λ app is.
    c.with_deck.ensures _ (c.with_argument.ensures _ _ (c.with_kind-formed.ensures _ is) c.text-cut.ensures)

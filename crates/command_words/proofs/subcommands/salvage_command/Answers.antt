use Rattle.command_words.proofs.ShapeLemmas.{last_arg}
use Rattle.command_words.proofs.subcommands.salvage_command.Goals as goal

pub returns : goal.returns
returns c =
    c.with_deck.ensures _ (c.with_salvage_form.ensures _ (last_arg _ _ c.arg.result c.arg.ensures c.named-salvage.ensures c.word-file.ensures))

use Rattle.command_words.proofs.ShapeLemmas.{last_arg}
use Rattle.command_words.proofs.subcommands.cobol_command.Goals as goal

pub returns : goal.returns
returns c =
    c.with_argument.ensures _ _ (last_arg _ _ c.arg.result c.arg.ensures c.named-cobol.ensures c.deck.ensures) c.flag-fixed.ensures

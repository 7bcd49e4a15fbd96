use Rattle.command_words.proofs.ShapeLemmas.{last_arg}
use Rattle.command_words.proofs.subcommands.copy_command.Goals as goal

pub returns : goal.returns
returns c =
    let named = c.with_argument-named.ensures _ _ (last_arg _ _ c.arg.result c.arg.ensures c.named-copy.ensures c.word-file.ensures) c.word-new.ensures in
    c.with_limits.ensures _ (c.with_argument.ensures _ _ named c.key-key.ensures)

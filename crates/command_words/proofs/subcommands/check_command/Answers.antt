use Rattle.command_words.proofs.ShapeLemmas.{last_arg}
use Rattle.command_words.proofs.subcommands.check_command.Goals as goal

pub returns : goal.returns
returns c =
    let filed = last_arg _ _ c.arg.result c.arg.ensures c.named-check.ensures c.words-files.ensures in
    c.with_wait.ensures _ (c.with_quiet.ensures _ filed)

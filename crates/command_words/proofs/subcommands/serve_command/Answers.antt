use Rattle.command_words.proofs.ShapeLemmas.{last_arg}
use Rattle.command_words.proofs.subcommands.serve_command.Goals as goal

pub returns : goal.returns
returns c =
    let held = last_arg _ _ c.arg.result c.arg.ensures c.named-serve.ensures c.folder-folder.ensures in
    c.with_wait.ensures _ (c.with_limits.ensures _ held)

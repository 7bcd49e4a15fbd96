use Rattle.command_words.proofs.subcommands.run_command.Goals as goal

pub returns : goal.returns
returns c =
    let limited = c.with_limits-limited.ensures _ (c.with_files.ensures _ c.named-run.ensures) in
    c.with_wait.ensures _ (c.with_argument.ensures _ _ limited c.flag-strict.ensures)

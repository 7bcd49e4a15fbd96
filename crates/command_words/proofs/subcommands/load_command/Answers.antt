use Rattle.command_words.proofs.subcommands.load_command.Goals as goal

pub returns : goal.returns
returns c =
    let written = c.with_text-written.ensures _ (c.with_files.ensures _ c.named-load.ensures) in
    c.with_quiet.ensures _ (c.with_limits.ensures _ (c.with_line_options-lined.ensures _ written))

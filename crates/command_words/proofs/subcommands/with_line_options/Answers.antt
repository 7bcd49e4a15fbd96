use Rattle.command_words.proofs.subcommands.with_line_options.Goals as goal

pub returns : goal.returns
returns c =
    λ app is.
    let replacing = c.with_argument-replacing.ensures _ _ (c.with_rejects.ensures _ is) c.flag-replace.ensures in
    let padding = c.with_argument-padding.ensures _ _ replacing c.flag-pad.ensures in
    let sorting = c.with_argument-sorting.ensures _ _ padding c.flag-sort.ensures in
    c.with_argument.ensures _ _ sorting c.memory.ensures

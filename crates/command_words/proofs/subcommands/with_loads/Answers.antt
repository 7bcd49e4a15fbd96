use Rattle.command_words.specs.CommandLine.{load_shape, stat_shape}
use Rattle.command_words.proofs.subcommands.with_loads.Goals as goal

pub returns : goal.returns
returns c =
    let loads = c.with_added-load.ensures _ load_shape c.with_records.ensures c.load_command.ensures in
    c.with_added.ensures _ stat_shape loads c.stat_command.ensures

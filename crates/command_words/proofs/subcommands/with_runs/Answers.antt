use Rattle.command_words.specs.CommandLine.{run_shape, check_shape}
use Rattle.command_words.proofs.subcommands.with_runs.Goals as goal

pub returns : goal.returns
returns c =
    let runs = c.with_added-run.ensures _ run_shape c.program.ensures c.run_command.ensures in
    c.with_added.ensures _ check_shape runs c.check_command.ensures

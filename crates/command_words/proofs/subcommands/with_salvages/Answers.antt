use Rattle.command_words.specs.CommandLine.{salvage_shape}
use Rattle.command_words.proofs.subcommands.with_salvages.Goals as goal

pub returns : goal.returns
returns c = c.with_added.ensures _ salvage_shape c.with_loads.ensures c.salvage_command.ensures

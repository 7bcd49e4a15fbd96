use Rattle.command_words.specs.CommandLine.{list_shape, cobol_shape}
use Rattle.command_words.proofs.subcommands.with_records.Goals as goal

pub returns : goal.returns
returns c =
    let lists = c.with_added-list.ensures _ list_shape c.with_lists.ensures c.list_command.ensures in
    c.with_added.ensures _ cobol_shape lists c.cobol_command.ensures

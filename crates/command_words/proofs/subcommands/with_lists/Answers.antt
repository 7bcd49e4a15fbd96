use Rattle.command_words.specs.CommandLine.{explain_shape, deck_shape}
use Rattle.command_words.proofs.subcommands.with_lists.Goals as goal

pub returns : goal.returns
returns c =
    let explains = c.with_added-explain.ensures _ explain_shape c.with_schemas.ensures c.explain_command.ensures in
    c.with_added.ensures _ deck_shape explains c.deck_command.ensures

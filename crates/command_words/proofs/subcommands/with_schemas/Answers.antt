use Rattle.command_words.specs.CommandLine.{serve_shape, schema_shape}
use Rattle.command_words.proofs.subcommands.with_schemas.Goals as goal

pub returns : goal.returns
returns c =
    let serves = c.with_added-serve.ensures _ serve_shape c.with_runs.ensures c.serve_command.ensures in
    c.with_added.ensures _ schema_shape serves c.schema_command.ensures

use Rattle.std.proofs.lemmas.Result.{IfOk-weaker}
use Rattle.command_words.specs.CommandLine.{copy_shape}
use Rattle.command_words.proofs.subcommands.command.Goals as goal

pub returns : goal.returns
returns c =
    IfOk-weaker c.with_added.result _ _ (λ command is. is.shape)
    (c.with_added.ensures _ copy_shape c.with_salvages.ensures c.copy_command.ensures)

use Rattle.std.proofs.lemmas.Result.{IfOk-weaker}
use Rattle.command_words.specs.Commands.{HasShape, IsApp}
use Rattle.command_words.proofs.ShapeLemmas.{with_command}
use Rattle.command_words.proofs.subcommands.with_added.Goals as goal

pub returns : goal.returns
returns c =
    λ app shape program added.
    let whole : IsApp app c.in_ok-whole.whole = rw c.in_ok-whole.was at program in
    let sub : HasShape shape c.in_ok-subcommand.subcommand = rw c.in_ok-subcommand.was at added in
    IfOk-weaker c.subcommand.result _ _ (λ command it. with_command it whole sub) c.subcommand.ensures

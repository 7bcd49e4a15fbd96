use Rattle.command_words.specs.Commands.{IsApp}
use Rattle.command_words.proofs.ShapeLemmas.{last_arg}
use Rattle.command_words.proofs.subcommands.with_argument.Goals as goal

pub returns : goal.returns
returns c =
    λ app rule command has.
    let is : IsApp app c.in_ok-begun.begun = rw c.in_ok-begun.was at command in
    last_arg _ _ c.arg.result c.arg.ensures is has

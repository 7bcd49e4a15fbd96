use Rattle.std.proofs.Common.{true, ap}
use Rattle.clap.specs.Words.{App}
use Rattle.command_words.proofs.ShapeLemmas.{with_fields}
use Rattle.command_words.proofs.subcommands.program.Goals as goal

pub returns : goal.returns
returns c =
    with_fields c.subcommand_required.result _ c.subcommand_required.ensures
    (ap (λ (a : App). record a { top = record a.top { subcommand_required = true } }) c.versioned.ensures.shape) c.versioned.ensures.local

use Rattle.std.proofs.Common.{true, ap}
use Rattle.clap.specs.Words.{App}
use Rattle.command_words.proofs.ShapeLemmas.{with_fields}
use Rattle.command_words.proofs.subcommands.versioned.Goals as goal

pub returns : goal.returns
returns c =
    let about = with_fields c.about.result _ c.about.ensures c.new.ensures.app c.new.ensures.local in
    with_fields c.version.result _ c.version.ensures
    (ap (λ (a : App). record a { top = record a.top { has_version = true } }) about.shape) about.local

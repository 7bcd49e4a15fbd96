use Rattle.command_words.proofs.ShapeLemmas.{with_fields}
use Rattle.command_words.proofs.subcommands.named.Goals as goal

pub returns : goal.returns
returns c =
    let about = with_fields c.about.result _ c.about.ensures c.new.ensures.app c.new.ensures.local in
    with_fields c.after_help.result _ c.after_help.ensures about.shape about.local

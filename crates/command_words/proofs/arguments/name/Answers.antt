use Rattle.command_words.proofs.ArgLemmas.{with_long}
use Rattle.command_words.proofs.arguments.name.Goals as goal

pub returns : goal.returns
returns c = with_long _ c.text.result c.long.result c.text.ensures _ c.long.ensures

use Rattle.command_words.proofs.ArgLemmas.{with_hidden_default}
use Rattle.command_words.proofs.arguments.first.Goals as goal

pub returns : goal.returns
returns c = with_hidden_default _ c.number-first.result c.hide_default_value.result c.number-first.ensures c.hide_default_value.ensures

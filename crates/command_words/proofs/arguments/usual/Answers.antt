use Rattle.command_words.proofs.ArgLemmas.{with_default}
use Rattle.command_words.proofs.arguments.usual.Goals as goal

pub returns : goal.returns
returns c = with_default _ c.text.result c.default_value.result c.text.ensures c.args.usual c.default_value.ensures

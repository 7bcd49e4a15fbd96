use Rattle.command_words.proofs.ArgLemmas.{with_long}
use Rattle.command_words.proofs.arguments.option.Goals as goal

pub returns : goal.returns
returns c = with_long _ c.word.result c.long.result c.word.ensures c.args.name c.long.ensures

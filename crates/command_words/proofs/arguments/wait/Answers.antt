use Rattle.command_words.proofs.ArgLemmas.{with_value_name}
use Rattle.command_words.proofs.arguments.wait.Goals as goal

pub returns : goal.returns
returns c = with_value_name _ c.number-wait.result c.value_name.result c.number-wait.ensures _ c.value_name.ensures

use Rattle.command_words.proofs.ArgLemmas.{with_value_name}
use Rattle.command_words.proofs.arguments.memory.Goals as goal

pub returns : goal.returns
returns c = with_value_name _ c.number-memory.result c.value_name.result c.number-memory.ensures _ c.value_name.ensures

use Rattle.clap.specs.declared.builder.action.ArgAction.TheVariants.{Append}
use Rattle.command_words.proofs.ArgLemmas.{with_action}
use Rattle.command_words.proofs.arguments.conditions.Goals as goal

pub returns : goal.returns
returns c = with_action _ c.text-condition.result c.action.result c.text-condition.ensures Append c.action.ensures

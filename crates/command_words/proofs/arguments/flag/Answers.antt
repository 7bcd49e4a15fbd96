use Rattle.clap.specs.Words.{new_rule}
use Rattle.clap.specs.declared.builder.action.ArgAction.TheVariants.{SetTrue}
use Rattle.command_words.specs.Commands.{HasRule}
use Rattle.command_words.proofs.ArgLemmas.{with_action, with_long, with_help}
use Rattle.command_words.proofs.arguments.flag.Goals as goal

pub returns : goal.returns
returns c =
    let plain : HasRule (new_rule c.args.name.now) c.new.result = (c.new.ensures.rule, c.new.ensures.optional.1) in
    let long = with_long (new_rule c.args.name.now) c.new.result c.long.result plain c.args.name c.long.ensures in
    let set = with_action _ c.long.result c.action.result long SetTrue c.action.ensures in
    with_help _ c.action.result c.help.result set c.args.help c.help.ensures

use Rattle.clap.specs.Words.{new_rule}
use Rattle.command_words.specs.Commands.{HasRule}
use Rattle.command_words.proofs.ArgLemmas.{with_value_name, with_long, with_help}
use Rattle.command_words.proofs.arguments.text.Goals as goal

pub returns : goal.returns
returns c =
    let plain : HasRule (new_rule c.args.name.now) c.new.result = (c.new.ensures.rule, c.new.ensures.optional.1) in
    let long = with_long (new_rule c.args.name.now) c.new.result c.long.result plain c.args.name c.long.ensures in
    let named = with_value_name _ c.long.result c.value_name.result long c.args.value c.value_name.ensures in
    with_help _ c.value_name.result c.help.result named c.args.help c.help.ensures

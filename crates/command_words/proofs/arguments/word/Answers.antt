use Rattle.clap.specs.Words.{new_rule}
use Rattle.command_words.specs.Commands.{HasRule}
use Rattle.command_words.proofs.ArgLemmas.{with_value_name, with_required, with_help}
use Rattle.command_words.proofs.arguments.word.Goals as goal

pub returns : goal.returns
returns c =
    let plain : HasRule (new_rule c.args.name.now) c.new.result = (c.new.ensures.rule, c.new.ensures.optional.1) in
    let named = with_value_name (new_rule c.args.name.now) c.new.result c.value_name.result plain c.args.value c.value_name.ensures in
    let required = with_required _ c.value_name.result c.required.result named c.required.ensures in
    with_help _ c.required.result c.help.result required c.args.help c.help.ensures

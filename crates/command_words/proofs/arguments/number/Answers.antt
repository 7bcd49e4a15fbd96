use Rattle.std.proofs.Common.{◌∙◌, ap, Some}
use Rattle.clap.specs.declared.builder.value_parser.ValueParser.TheVariants.{Unsigned}
use Rattle.command_words.proofs.ArgLemmas.{with_parser}
use Rattle.command_words.proofs.arguments.number.Goals as goal

pub returns : goal.returns
returns c =
    let given = c.value_parser.ensures.given in
    with_parser _ c.usual.result c.value_parser.result c.usual.ensures (Unsigned c.args.least c.args.most) c.value_parser.ensures.others
    (given.1 ∙ ap Some (given.2 ∙ c.unsigned.ensures))

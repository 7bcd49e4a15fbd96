use Rattle.std.proofs.Common.{◌∙◌, length, drop}
use Rattle.std.proofs.lemmas.List.{length-take-le}
use Rattle.cobix_inside.specs.declared.question.Question.TheVariants.{Read}
use Rattle.cobix_inside.specs.Answers.{stream}
use Rattle.cobix_inside.proofs.StreamLemmas.{told_with}
use Rattle.cobix_inside.proofs.asking.ask_to_read.Goals as goal

pub returns-clause-told : goal.returns-clause-told
returns-clause-told g c =
    let left = g.R.Read.remaining in
    told_with (left c.args.input.now) (left c.ask.new.input) (left c.read_exact.new.self) (stream g.W.Write.contents c.args.output.now c.ask.new.output)
    (Read c.args.file c.args.at (length c.args.bytes.now)) c.in_ok-told.told c.in_ok-came.came c.read_exact.new.buf (drop c.in_ok-came.came c.args.bytes.now)
    c.in_ok-told.ensures c.in_ok-came.ensures.is (c.read_exact.auto.buf ∙ length-take-le c.in_ok-came.came c.args.bytes.now c.in_ok-came.ensures.bound)
    c.in_ok-read_exact.ensures.bytes

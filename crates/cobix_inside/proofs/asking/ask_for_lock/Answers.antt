use Rattle.cobix_inside.specs.Answers.{stream}
use Rattle.cobix_inside.proofs.StreamLemmas.{lock_done}
use Rattle.cobix_inside.proofs.asking.ask_for_lock.Goals as goal

pub returns : goal.returns
returns g c =
    lock_done (stream g.R.Read.remaining c.args.input.now c.ask.new.input) (stream g.W.Write.contents c.args.output.now c.ask.new.output)
    c.args.question.now c.ask.result c.lock_outcome.result c.ask.ensures c.lock_outcome.ensures

use Rattle.serve.proofs.ClosingLemmas.{HasClosed}
use Rattle.serve.proofs.serving.close_all.Given as goal

abbrev pub invariant-loop : goal.invariant-loop
invariant-loop g l = HasClosed g.L.Library.shown l.initial.session l.session l.counter l.end l.failed

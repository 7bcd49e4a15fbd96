use Rattle.streams.specs.Source.{source_of}
use Rattle.serve.specs.Serving.{streams}
use Rattle.serve.proofs.ServingLemmas.{HasServed}
use Rattle.serve.proofs.serving.answer_all.Given as goal

-- what was answered so far
abbrev pub invariant-loop : goal.invariant-loop
invariant-loop g l = HasServed g.L.Library.shown g.L.GrowingLibrary.keeps_open
    (streams (source_of g.R.Read.remaining l.initial.input) (source_of g.R.Read.remaining l.input) (g.W.Write.contents l.initial.out) (g.W.Write.contents l.out)) l.held l.initial.session l.session l.counter

use Rattle.benchmarks.proofs.trees.calls.step_over.Given as goal

abbrev pub invariant-loop : goal.invariant-loop
invariant-loop g l = g.P.Pages.shown.Writes l.initial.pages l.pages

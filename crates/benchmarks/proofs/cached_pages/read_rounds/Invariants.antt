use Rattle.benchmarks.proofs.cached_pages.read_rounds.Given as goal

abbrev pub invariant-loop-round : goal.invariant-loop-round
invariant-loop-round g l = g.P.Pages.shown.Writes l.initial.pages l.pages

use Rattle.benchmarks.proofs.cached_pages.fill.Given as goal

abbrev pub invariant-loop : goal.invariant-loop
invariant-loop g l = g.P.Pages.shown.Writes l.initial.pages l.pages

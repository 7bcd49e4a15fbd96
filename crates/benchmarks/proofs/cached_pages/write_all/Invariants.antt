use Rattle.benchmarks.proofs.cached_pages.write_all.Given as goal

abbrev pub invariant-loop-i : goal.invariant-loop-i
invariant-loop-i g l = g.P.Pages.shown.Writes l.initial.pages l.pages

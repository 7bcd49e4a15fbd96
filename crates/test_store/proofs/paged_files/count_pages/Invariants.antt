use Rattle.test_store.proofs.paged_files.count_pages.Given as goal

abbrev pub invariant-loop-n : goal.invariant-loop-n
invariant-loop-n g l = g.P.Pages.shown.Writes l.initial.pages l.pages

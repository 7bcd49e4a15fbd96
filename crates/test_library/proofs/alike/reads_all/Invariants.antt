use Rattle.test_library.specs.Alike.{AreAlike}
use Rattle.test_library.proofs.alike.reads_all.Given as goal

abbrev pub invariant-loop-count : goal.invariant-loop-count
invariant-loop-count g l =
    AreAlike (g.L.Library.shown.world l.library) (g.M.Library.shown.world l.other) l.u l.schema

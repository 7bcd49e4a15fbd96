use Rattle.test_library.specs.Alike.{AreAlike}
use Rattle.test_library.proofs.drawn_alike.compares.Given as goal

abbrev pub invariant-loop-k : goal.invariant-loop-k
invariant-loop-k g l =
    AreAlike (g.L.Library.shown.world l.library) (g.M.Library.shown.world l.other) 1 l.schema

use Rattle.test_library.specs.Alike.{AreAlike}
use Rattle.test_library.proofs.lengths.adds_all.Given as goal

abbrev pub invariant-loop-length : goal.invariant-loop-length
invariant-loop-length g l =
    AreAlike (g.L.Library.shown.world l.library) (g.M.Library.shown.world l.other) 1 l.schema

abbrev pub invariant-loop-k : goal.invariant-loop-k
invariant-loop-k g l =
    AreAlike (g.L.Library.shown.world l.library) (g.M.Library.shown.world l.other) 1 l.schema

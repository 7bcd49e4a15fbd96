use Rattle.test_library.specs.Alike.{AreAlike}
use Rattle.test_library.proofs.lengths.goes_round.Given as goal

abbrev pub invariant-loop-length : goal.invariant-loop-length
invariant-loop-length g l =
    AreAlike (g.L.Library.shown.world l.library) (g.M.Library.shown.world l.other) 1 l.schema

use Rattle.test_library.specs.Alike.{AreAlike}
use Rattle.test_library.proofs.drawn_alike.runs.Given as goal

abbrev pub invariant-loop-call : goal.invariant-loop-call
invariant-loop-call g l =
    AreAlike (g.L.Library.shown.world l.library) (g.M.Library.shown.world l.other) 1 l.schema

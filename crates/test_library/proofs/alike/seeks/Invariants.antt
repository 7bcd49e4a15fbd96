use Rattle.test_library.specs.Alike.{AreAlike}
use Rattle.test_library.proofs.alike.seeks.Given as goal

abbrev pub invariant-loop-relation : goal.invariant-loop-relation
invariant-loop-relation g l =
    AreAlike (g.L.Library.shown.world l.library) (g.M.Library.shown.world l.other) l.u l.schema

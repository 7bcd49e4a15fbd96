use Rattle.indexed_file.specs.Clients.{IsOpenWith}
use Rattle.test_library.proofs.reads.adds_all.Given as goal

abbrev pub invariant-loop-i : goal.invariant-loop-i
invariant-loop-i g l = IsOpenWith (g.L.Library.shown.world l.library) 0 l.schema

use Rattle.indexed_file.specs.Clients.{IsOpenWith}
use Rattle.test_library.proofs.asked.adds_all.Given as goal

abbrev pub invariant-loop-n : goal.invariant-loop-n
invariant-loop-n g l = IsOpenWith (g.L.Library.shown.world l.library) 0 l.schema

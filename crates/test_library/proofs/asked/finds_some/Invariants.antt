use Rattle.indexed_file.specs.Clients.{IsOpenWith}
use Rattle.test_library.proofs.asked.finds_some.Given as goal

abbrev pub invariant-loop-k : goal.invariant-loop-k
invariant-loop-k g l = IsOpenWith (g.L.Library.shown.world l.library) 0 l.schema

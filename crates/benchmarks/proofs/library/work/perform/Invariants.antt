use Rattle.indexed_file.specs.Clients.{IsOpenWith}
use Rattle.benchmarks.proofs.library.work.perform.Given as goal

abbrev pub invariant-loop-turn : goal.invariant-loop-turn
invariant-loop-turn g l = IsOpenWith (g.L.Library.shown.world l.library) 0 l.schema

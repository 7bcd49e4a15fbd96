use Rattle.indexed_file.specs.Clients.{IsOpenWith}
use Rattle.test_file_checker.proofs.drawn_files.runs.Given as goal

abbrev pub invariant-loop : goal.invariant-loop
invariant-loop g l = IsOpenWith (g.L.Library.shown.world l.library) 0 l.schema

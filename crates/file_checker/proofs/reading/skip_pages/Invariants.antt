use Rattle.std.proofs.Common.{◌*◌}
use Rattle.file_checker.specs.Bytes.{HasGiven}
use Rattle.file_checker.proofs.reading.skip_pages.Given as goal

-- so many pages came
abbrev pub invariant-loop : goal.invariant-loop
invariant-loop g l = HasGiven (g.R.Read.remaining l.initial.reader) (g.R.Read.remaining l.reader) (4096 * l.counter)

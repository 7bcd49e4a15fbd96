use Rattle.std.proofs.Common.{◌≤◌, ◌-◌, length}
use Rattle.std.specs.Io.KnownBytes.{Consumes}
use Rattle.system_files.proofs.front.read_front.Given as goal

-- what came so far
abbrev pub invariant-more : goal.invariant-more
invariant-more g l = Consumes (g.R.Read.remaining l.initial.reader) (g.R.Read.remaining l.reader) l.bytes.items × (length l.bytes.items ≤ l.initial.most)

abbrev pub decreases-more : goal.decreases-more
decreases-more g l = l.initial.most - length l.bytes.items

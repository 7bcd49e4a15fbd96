use Rattle.std.specs.Io.KnownBytes.{Keeps}
use Rattle.std.proofs.Common.{◌≡◌, length}
use Rattle.system_files.proofs.front.read_part.Given as goal

-- no byte came so far
abbrev pub invariant-loop : goal.invariant-loop
invariant-loop g l = Keeps (g.R.Read.remaining l.initial.reader) (g.R.Read.remaining l.reader) × (length l.part ≡ length l.initial.part)

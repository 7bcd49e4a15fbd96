use Rattle.std.specs.Io.KnownBytes.{Consumes}
use Rattle.system_files.proofs.lines.read_lines.Given as goal

-- the text that came so far
abbrev pub invariant-loop : goal.invariant-loop
invariant-loop g l = Consumes (g.R.Read.remaining l.initial.reader) (g.R.Read.remaining l.reader) l.bytes.items

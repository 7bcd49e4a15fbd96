use Rattle.std.specs.Io.KnownBytes.{Keeps}
use Rattle.streams.proofs.output.offer.Given as goal

-- no byte was taken so far
abbrev pub invariant-loop : goal.invariant-loop
invariant-loop g l = Keeps (g.W.Write.contents l.initial.out) (g.W.Write.contents l.out)

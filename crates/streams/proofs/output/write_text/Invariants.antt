use Rattle.std.proofs.Common.{length}
use Rattle.streams.proofs.OutputLemmas.{IsWritten}
use Rattle.streams.proofs.output.write_text.Given as goal

abbrev pub invariant-more : goal.invariant-more
invariant-more g l = IsWritten (g.W.Write.contents l.initial.out) (g.W.Write.contents l.out) l.text l.rest

abbrev pub decreases-more : goal.decreases-more
decreases-more g l = length l.rest

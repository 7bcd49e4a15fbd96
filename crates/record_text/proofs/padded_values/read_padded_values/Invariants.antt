use Rattle.std.proofs.Common.{length}
use Rattle.record_text.proofs.PaddedLemmas.{ArePaddedUpTo}
use Rattle.record_text.proofs.padded_values.read_padded_values.Given as goal

-- values of the first columns were read and filled up
abbrev pub invariant-more : goal.invariant-more
invariant-more l = ArePaddedUpTo l.fn.quoting l.fn.columns l.fn.text l.fn.area l.is_first l.left l.area l.rest

abbrev pub decreases-more : goal.decreases-more
decreases-more l = length l.left

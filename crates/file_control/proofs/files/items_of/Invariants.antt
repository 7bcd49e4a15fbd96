use Rattle.std.proofs.Common.{length}
use Rattle.file_control.proofs.ItemLemmas.{DigitsSoFar}
use Rattle.file_control.proofs.files.items_of.Given as goal

abbrev pub invariant-more : goal.invariant-more
invariant-more l = DigitsSoFar l.fn.storage l.rest l.items

abbrev pub decreases-more : goal.decreases-more
decreases-more l = length l.rest

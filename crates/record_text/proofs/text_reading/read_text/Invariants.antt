use Rattle.std.proofs.Common.{length}
use Rattle.record_text.proofs.TextReadingLemmas.{IsRead}
use Rattle.record_text.proofs.text_reading.read_text.Given as goal

-- the first bytes of a record were read
abbrev pub invariant-more : goal.invariant-more
invariant-more l = IsRead l.fn.text l.fn.area l.area l.length l.rest

abbrev pub decreases-more : goal.decreases-more
decreases-more l = length l.rest

use Rattle.std.proofs.Common.{length}
use Rattle.record_text.proofs.LongLemmas.{HasGoneOn}
use Rattle.record_text.proofs.text_reading.long_record.Given as goal

-- the first bytes were counted
abbrev pub invariant-more : goal.invariant-more
invariant-more l = HasGoneOn l.fn.text l.fn.read l.bytes l.rest

abbrev pub decreases-more : goal.decreases-more
decreases-more l = length l.rest

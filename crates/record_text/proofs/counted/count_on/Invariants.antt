use Rattle.std.proofs.Common.{length}
use Rattle.record_text.proofs.MistakeLemmas.{IsCountedUpTo}
use Rattle.record_text.proofs.counted.count_on.Given as goal

-- the first bytes were counted
abbrev pub invariant-more : goal.invariant-more
invariant-more l = IsCountedUpTo l.fn.quoting l.fn.text l.fn.bytes l.count l.rest

abbrev pub decreases-more : goal.decreases-more
decreases-more l = length l.rest

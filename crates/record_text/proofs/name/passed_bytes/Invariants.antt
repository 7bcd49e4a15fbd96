use Rattle.std.proofs.Common.{length}
use Rattle.record_text.proofs.NameLemmas.{ArePassed}
use Rattle.record_text.proofs.name.passed_bytes.Given as goal

-- the first bytes are passed by
abbrev pub invariant-more : goal.invariant-more
invariant-more l = ArePassed l.fn.text l.fn.bytes l.rest l.left

abbrev pub decreases-more : goal.decreases-more
decreases-more l = length l.left

use Rattle.std.proofs.Common.{◌≡◌, length}
use Rattle.record_loading.specs.Passing.{behind_line}
use Rattle.record_loading.proofs.passing.behind_line.Given as goal

-- the first bytes are of the line
abbrev pub invariant-more : goal.invariant-more
invariant-more l = behind_line l.fn.text ≡ behind_line l.rest

abbrev pub decreases-more : goal.decreases-more
decreases-more l = length l.rest

use Rattle.std.proofs.Common.{◌≡◌}
use Rattle.record_loading.specs.Passing.{behind_lines}
use Rattle.record_loading.proofs.passing.behind_lines.Given as goal

-- the first lines are passed over
abbrev pub invariant-more : goal.invariant-more
invariant-more l = behind_lines l.fn.count l.fn.text ≡ behind_lines l.left l.rest

abbrev pub decreases-more : goal.decreases-more
decreases-more l = l.left

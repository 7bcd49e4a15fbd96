use Rattle.std.proofs.Common.{◌≤◌, ◌-◌, length}
use Rattle.system_files.proofs.calls.write.Given as goal

abbrev pub invariant-loop-taken : goal.invariant-loop-taken
invariant-loop-taken g l = l.taken ≤ length l.bytes

abbrev pub decreases-loop-taken : goal.decreases-loop-taken
decreases-loop-taken g l = length l.bytes - l.taken

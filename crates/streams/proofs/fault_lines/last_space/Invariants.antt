use Rattle.std.proofs.Common.{◌≡◌, ◌<◌, length, get_or}
use Rattle.std.specs.Option.{IfSome}
use Rattle.streams.proofs.fault_lines.last_space.Given as goal

abbrev pub invariant-loop-at : goal.invariant-loop-at
invariant-loop-at l = IfSome l.found (λ at. (at < length l.bytes) × (get_or l.bytes at 0 ≡ 32))

use Rattle.std.proofs.Common.{◌≡◌, length}
use Rattle.unit_calls.proofs.units.new_area.Given as goal

abbrev pub invariant-loop : goal.invariant-loop
invariant-loop l = length l.area.items ≡ l.counter

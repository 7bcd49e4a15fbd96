use Rattle.salvaged_records.specs.Slots.{slots_to}
use Rattle.salvaged_records.proofs.visiting.visit_slots.Given as goal

abbrev pub invariant-loop-i : goal.invariant-loop-i
invariant-loop-i g l = g.V.TakesSlots.takes l.fn.visitor l.visitor (slots_to l.fn.shape l.fn.page l.fn.n l.i)

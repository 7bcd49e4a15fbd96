use Rattle.std.proofs.Common.{◌≤◌, ◌+◌}
use Rattle.record_heap.specs.Slot.{room}
use Rattle.salvaged_records.specs.Slots.{slots_to}
use Rattle.salvaged_records.specs.Writing.{HoldsSlots}
use Rattle.salvaged_records.proofs.slot_lines.hold_slots.Given as goal

abbrev pub invariant-loop-i : goal.invariant-loop-i
invariant-loop-i g l = record {
  within : l.i ≤ room l.fn.shape;
  held : HoldsSlots l.fn.list (g.W.Write.contents l.fn.out) (g.W.Write.contents l.out) l.fn.held l.held (slots_to l.fn.shape l.fn.page l.fn.n l.i);
  few : l.held.count ≤ l.fn.held.count + l.i;
}

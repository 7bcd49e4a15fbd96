use Rattle.std.proofs.Common.{◌≡◌, ◌<◌, false}
use Rattle.record_heap.specs.declared.shape.Place.{Place}
use Rattle.page_walks.specs.SlotMarks.{marked_slot}
use Rattle.page_walks.proofs.slot_marks.SlotMarks.first_of.Given as goal

abbrev pub invariant-loop-slot : goal.invariant-loop-slot
invariant-loop-slot l = (p : Place) → p.page ≡ l.page → p.slot < l.slot → marked_slot l.self p ≡ false

use Rattle.std.proofs.Common.{◌≡◌, false, take}
use Rattle.record_heap.specs.declared.shape.Place.{Place}
use Rattle.record_heap.specs.Chain.{IsOneOf}
use Rattle.page_walks.specs.SlotMarks.{marked_slot}
use Rattle.page_walks.proofs.slot_marks.SlotMarks.first.Given as goal

abbrev pub invariant-loop-page : goal.invariant-loop-page
invariant-loop-page l = (p : Place) → IsOneOf (take l.page-index l.self.own.now) p.page → marked_slot l.self p ≡ false

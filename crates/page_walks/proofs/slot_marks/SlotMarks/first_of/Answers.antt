use Rattle.std.proofs.Common.{arith}
use Rattle.record_heap.specs.declared.shape.Place.{Place}
use Rattle.page_walks.proofs.MarkAheadLemmas.{none_more, none_of_page, not_on}
use Rattle.page_walks.specs.SlotMarks.{marked_slot}
use Rattle.page_walks.proofs.slot_marks.SlotMarks.first_of.Goals as goal

pub loop-slot-preserved : goal.loop-slot-preserved
loop-slot-preserved c =
    let place : Place = record { page = c.args.page; slot = c.loop-slot.slot } in
    none_more c.args.self.now c.args.page c.loop-slot.slot c.loop-slot.invariant (not_on c.has.result (marked_slot c.args.self.now place) c.if-has.false c.has.ensures.1)

pub returns-clause-none : goal.returns-clause-none
returns-clause-none c = λ _ p on. none_of_page c.args.self.now c.args.page c.loop-slot.slot c.loop-slot-test.false c.loop-slot.invariant p on

pub loop-slot-init : goal.loop-slot-init
loop-slot-init c = λ p on less. absurd (omega (arith, less))

use Rattle.std.proofs.Common.{◌<◌, ℕ, List, refl, sym, subst}
use Rattle.record_heap.specs.declared.shape.Place.{Place}
use Rattle.record_heap.specs.Slot.{room}
use Rattle.pages.proofs.RefusedLemmas.{handed_on}
use Rattle.page_walks.specs.SlotMarks.{HasMark}
use Rattle.pages.specs.Refused.{RefusesRightly}
use Rattle.record_heap.specs.Walk.{IsFreeOrUsed}
use Rattle.page_walks.specs.SlotWalk.{SlotMarked, SlotsAhead}
use Rattle.record_heap.specs.Faults.{TellsOfChain}
use Rattle.page_walks.specs.SlotFaults.{IsWrongOfPage}
use Rattle.page_walks.proofs.FaultLemmas.{fault_on, wrong_of_page}
use Rattle.page_walks.proofs.MarkAheadLemmas.{same_on, still_has}
use Rattle.page_walks.proofs.SlotWalkLemmas.{page_more}
use Rattle.page_walks.proofs.heap_walk.mark_page.Goals as goal

pub loop-i-preserved : goal.loop-i-preserved
loop-i-preserved c =
    let within : c.loop-i.i < room c.args.shape = subst (λ (k : ℕ). c.loop-i.i < k) c.room-room.ensures.value c.loop-i-test.true in
    let place : Place = record { page = c.args.n; slot = c.loop-i.i } in
    let slot = subst (λ (bytes : List ℕ). SlotMarked c.args.shape bytes place c.loop-i.marks c.mark_slot.new.marks) c.slot.ensures.value c.in_ok-mark_slot.ensures.marked in
    record {
      marked = page_more c.args.shape c.args.page.now c.args.n c.loop-i.i c.args.marks.now c.loop-i.marks c.mark_slot.new.marks place refl refl c.loop-i.invariant.marked slot;
      same = same_on c.args.marks.now c.loop-i.marks c.mark_slot.new.marks c.loop-i.invariant.same c.mark_slot.ensures.same;
    }

pub returns-in_err-mark_slot-clause-same : goal.returns-in_err-mark_slot-clause-same
returns-in_err-mark_slot-clause-same c = same_on c.args.marks.now c.loop-i.marks c.mark_slot.new.marks c.loop-i.invariant.same c.mark_slot.ensures.same

pub returns-in_err-mark_slot-clause-refused : goal.returns-in_err-mark_slot-clause-refused
returns-in_err-mark_slot-clause-refused c =
    let place : Place = record { page = c.args.n; slot = c.loop-i.i } in
    let within : c.loop-i.i < room c.args.shape = subst (λ (k : ℕ). c.loop-i.i < k) c.room-room.ensures.value c.loop-i-test.true in
    handed_on (HasMark c.loop-i.marks place × IsFreeOrUsed c.args.shape c.slot.result.now) (SlotsAhead c.args.shape c.args.page.now c.args.n (room c.args.shape) c.args.marks.now) c.from_residual.result _
    c.from_residual.ensures.1
    (λ a. (let h = a place refl within in (still_has c.args.marks.now c.loop-i.marks place c.loop-i.invariant.same h.0, subst (IsFreeOrUsed c.args.shape) (sym c.slot.ensures.value) h.1)))
    c.in_err-mark_slot.ensures.refused

pub returns-in_err-mark_slot-clause-told : goal.returns-in_err-mark_slot-clause-told
returns-in_err-mark_slot-clause-told c =
    let place : Place = record { page = c.args.n; slot = c.loop-i.i } in
    let within : c.loop-i.i < room c.args.shape = subst (λ (k : ℕ). c.loop-i.i < k) c.room-room.ensures.value c.loop-i-test.true in
    fault_on (TellsOfChain (IsWrongOfPage c.args.shape c.args.page.now c.args.n c.args.marks.now)) c.from_residual.result _ c.from_residual.ensures.1
    (wrong_of_page c.args.shape c.args.page.now c.args.n c.args.marks.now c.loop-i.marks place _ refl within c.loop-i.invariant.same c.in_err-mark_slot.ensures.told
    (subst (λ (bytes : List ℕ). RefusesRightly (HasMark c.loop-i.marks place × IsFreeOrUsed c.args.shape bytes) c.in_err-mark_slot.field-0.0) c.slot.ensures.value c.in_err-mark_slot.ensures.refused))

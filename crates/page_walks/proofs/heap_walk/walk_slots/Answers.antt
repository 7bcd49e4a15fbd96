use Rattle.std.proofs.Common.{◌≡◌, ◌-◌, ◌+◌, ◌<◌, ℕ, ◌++◌, ◌∷◌, [], inl, refl, sym, ◌∙◌, arith, subst}
use Rattle.std.proofs.lemmas.List.{length-append}
use Rattle.pages.specs.PageList.{pages_in}
use Rattle.pages.proofs.RefusedLemmas.{handed_on}
use Rattle.page_walks.specs.SlotWalk.{FreeSlotsAhead, IsMarkedFree}
use Rattle.page_walks.proofs.SlotWalkLemmas.{slots_more}
use Rattle.page_walks.proofs.MarkAheadLemmas.{same_itself, same_on}
use Rattle.page_walks.proofs.HeapAheadLemmas.{free_here, free_next, free_over}
use Rattle.record_heap.specs.Faults.{TellsOfChain}
use Rattle.page_walks.specs.SlotFaults.{IsLinkFault}
use Rattle.page_walks.proofs.FaultLemmas.{fault_on, last_slot_more, tells_link, tells_many_slots}
use Rattle.page_walks.proofs.heap_walk.walk_slots.Goals as goal

pub loop-preserved : goal.loop-preserved
loop-preserved g c = record {
  walked = λ list has.
      let w = c.loop.invariant.walked list (c.take_mark.ensures.before list has) in
      let more = length-append w.0 (c.loop.at ∷ []) in
      let many = w.3 in (
        w.0 ++ c.loop.at ∷ [],
        slots_more c.args.shape (pages_in list) c.args.first c.loop.at c.in_ok-next.next _ c.loop.marks c.take_mark.new.marks w.0 w.1 (c.in_ok-next.ensures.taken list has),
        last_slot_more w.0 c.loop.at ∙ sym c.place_of-from.ensures,
        omega (arith, more, many),
      );
  before = λ list has. c.loop.invariant.before list (c.take_mark.ensures.before list has);
  same = same_on c.args.marks.now c.loop.marks c.take_mark.new.marks c.loop.invariant.same c.take_mark.ensures.same;
  ahead = λ list has a. free_next c.args.shape list c.loop.at c.in_ok-next.next (c.args.marks.now.slots - c.loop.counter) (c.args.marks.now.slots - (c.loop.counter + 1)) c.loop.marks c.take_mark.new.marks
      c.if-at-eq0.false (let more : c.loop.counter < c.args.marks.now.slots = c.loop-test.true in omega arith) (c.in_ok-next.ensures.taken list has) c.take_mark.ensures.same
      (c.loop.invariant.ahead list (c.take_mark.ensures.before list has) a);
}

pub returns-in_err-next-clause-refused : goal.returns-in_err-next-clause-refused
returns-in_err-next-clause-refused g c = λ list has.
    handed_on (IsMarkedFree c.args.shape list c.loop.marks c.loop.at) (FreeSlotsAhead c.args.shape list c.args.first c.args.marks.now.slots c.args.marks.now) c.from_residual.result _
    c.from_residual.ensures.1
    (λ a. free_here c.args.shape list c.loop.at (c.args.marks.now.slots - c.loop.counter) c.loop.marks c.if-at-eq0.false (c.loop.invariant.ahead list (c.take_mark.ensures.before list has) a))
    (c.in_err-next.ensures.refused list has)

pub returns-then-at-ne0-clause-refused : goal.returns-then-at-ne0-clause-refused
returns-then-at-ne0-clause-refused g c =
    λ list has a. free_over c.args.shape list c.loop.at (c.args.marks.now.slots - c.loop.counter) c.loop.marks c.if-at-ne0.true (omega arith) (c.loop.invariant.ahead list has a)

pub loop-init : goal.loop-init
loop-init g c = record {
  walked = λ list has. ([], record { path = refl; once = tt; were = tt; every = λ p below on. inl on; only = λ p below on. on }, refl, refl);
  before = λ list has. has;
  same = same_itself c.args.marks.now;
  ahead = λ list has a. (let same : c.args.marks.now.slots ≡ c.args.marks.now.slots - 0 = omega arith in
      subst (λ (n : ℕ). FreeSlotsAhead c.args.shape list c.args.first n c.args.marks.now) same a);
}

pub returns-in_err-next-clause-told : goal.returns-in_err-next-clause-told
returns-in_err-next-clause-told g c = λ list has.
    let w = c.loop.invariant.walked list (c.take_mark.ensures.before list has) in
    fault_on (TellsOfChain (IsLinkFault c.args.shape list c.args.first c.args.marks.now)) c.from_residual.result _ c.from_residual.ensures.1
    (tells_link c.args.shape list c.args.first c.args.marks.now c.loop.marks w.0 c.loop.at c.loop.from w.1 c.if-at-eq0.false w.2 _ c.loop.invariant.same (c.in_err-next.ensures.refused list has)
    (c.in_err-next.ensures.told list has))

pub returns-then-at-ne0-clause-told : goal.returns-then-at-ne0-clause-told
returns-then-at-ne0-clause-told g c = λ list has.
    let w = c.loop.invariant.walked list has in
    tells_many_slots c.args.shape list c.args.first c.args.marks.now c.loop.marks w.0 c.loop.at c.loop.from w.1 c.if-at-ne0.true w.2 _ refl
    (let many = w.3 in omega (arith, many))

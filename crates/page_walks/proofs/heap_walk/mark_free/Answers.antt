use Rattle.std.proofs.Common.{◌≡◌, ◌<◌, ℕ, ◌+◌, suc, take, get_or, List, [], ◌++◌, ◌∷◌, ◌∙◌, sym, subst, arith, length}
use Rattle.std.proofs.Math.Seq.{take-suc}
use Rattle.pages.specs.PageList.{pages_in}
use Rattle.pages.proofs.RefusedLemmas.{handed_on, refused}
use Rattle.pages.proofs.SourceLemmas.{there_is, none_is}
use Rattle.record_heap.specs.Chain.{IsOneOf}
use Rattle.record_heap.specs.Slot.{room}
use Rattle.record_heap.specs.declared.shape.Place.{Place}
use Rattle.pages.specs.declared.walk_fault.WalkFault.{WalkFault}
use Rattle.page_walks.specs.SlotMarks.{HasMark}
use Rattle.record_heap.specs.Walk.{IsFreeOrUsed}
use Rattle.page_walks.specs.SlotWalk.{AreMarked, OwnAhead, SlotsAhead}
use Rattle.record_heap.specs.Faults.{AreOwnPages, IsWrongSlot, TellsOfChain}
use Rattle.page_walks.specs.SlotFaults.{IsWrongOfPage}
use Rattle.page_walks.proofs.FaultLemmas.{fault_on, wrong_of_own}
use Rattle.page_walks.proofs.HeapAheadLemmas.{each_one, one_of_at}
use Rattle.page_walks.proofs.MarkAheadLemmas.{same_on, still_has}
use Rattle.record_heap.proofs.StandLemmas.{slot_there}
use Rattle.page_walks.proofs.SlotWalkLemmas.{marked_more}
use Rattle.page_walks.proofs.heap_walk.mark_free.Goals as goal

pub loop-n-preserved : goal.loop-n-preserved
loop-n-preserved g c =
    let own = c.args.own.now in
    let n = get_or own c.loop-n.n-index 0 in
    let longer : take (suc c.loop-n.n-index) own ≡ take c.loop-n.n-index own ++ n ∷ [] = take-suc own c.loop-n.n-index 0 c.loop-n-test.true in
    let up : c.loop-n.n-index + 1 ≡ suc c.loop-n.n-index = omega arith in
    record {
      marked = λ list has. subst (λ (k : ℕ). AreMarked c.args.shape (pages_in list) (take k own) c.mark_page.new.marks) (sym up)
          (subst (λ (ns : List ℕ). AreMarked c.args.shape (pages_in list) ns c.mark_page.new.marks) (sym longer)
          (marked_more c.args.shape (pages_in list) _ (take c.loop-n.n-index own) n c.loop-n.marks c.mark_page.new.marks (c.loop-n.invariant.marked list (c.page.ensures.before list has))
          (sym (c.page.ensures.page list has) ∙ c.in-Some.is) c.in_ok-mark_page.ensures.marked));
      before = λ list has. c.loop-n.invariant.before list (c.page.ensures.before list has);
      same = same_on c.args.marks.now c.loop-n.marks c.mark_page.new.marks c.loop-n.invariant.same c.mark_page.ensures.same;
    }

pub returns-in_default-clause-refused : goal.returns-in_default-clause-refused
returns-in_default-clause-refused g c = λ list has.
    let n = get_or c.args.own.now c.loop-n.n-index 0 in
    let behind = none_is list n (sym (c.page.ensures.page list has) ∙ c.in_default.is) in
    refused (OwnAhead c.args.shape list c.args.own.now c.args.marks.now) c.of_page.result _ _ c.of_page.ensures
    (λ a. (let inside : n < length list = each_one (λ m. m < length list) c.args.own.now n a.there (one_of_at c.args.own.now c.loop-n.n-index 0 c.loop-n-test.true) in
    omega (arith, inside, behind)))

pub returns-in_err-mark_page-clause-same : goal.returns-in_err-mark_page-clause-same
returns-in_err-mark_page-clause-same g c = same_on c.args.marks.now c.loop-n.marks c.mark_page.new.marks c.loop-n.invariant.same c.mark_page.ensures.same

pub returns-in_err-mark_page-clause-refused : goal.returns-in_err-mark_page-clause-refused
returns-in_err-mark_page-clause-refused g c = λ list has.
    let n = get_or c.args.own.now c.loop-n.n-index 0 in
    let page = c.in-Some.page in
    let at_page = sym (c.page.ensures.page list has) ∙ c.in-Some.is in
    handed_on (SlotsAhead c.args.shape page n (room c.args.shape) c.loop-n.marks) (OwnAhead c.args.shape list c.args.own.now c.args.marks.now) c.from_residual.result _ c.from_residual.ensures.1
    (λ a p on below. (let h = a.slots p (subst (IsOneOf c.args.own.now) (sym on) (one_of_at c.args.own.now c.loop-n.n-index 0 c.loop-n-test.true)) below in (
      still_has c.args.marks.now c.loop-n.marks p c.loop-n.invariant.same h.0,
      subst (IsFreeOrUsed c.args.shape) (slot_there c.args.shape (pages_in list) p n page on at_page) h.1,
    ))) c.in_err-mark_page.ensures.refused

pub returns-in_default-clause-told : goal.returns-in_default-clause-told
returns-in_default-clause-told g c = λ list has pages can.
    let n = get_or c.args.own.now c.loop-n.n-index 0 in
    let behind = none_is list n (sym (c.page.ensures.page list has) ∙ c.in_default.is) in
    let inside : n < length list = each_one (λ m. m < length list) c.args.own.now n pages.there (one_of_at c.args.own.now c.loop-n.n-index 0 c.loop-n-test.true) in
    absurd (omega (arith, inside, behind))

pub returns-in_err-mark_page-clause-told : goal.returns-in_err-mark_page-clause-told
returns-in_err-mark_page-clause-told g c = λ list has.
    let own = c.args.own.now in
    let n = get_or own c.loop-n.n-index 0 in
    let here = there_is list n c.in-Some.page (sym (c.page.ensures.page list has) ∙ c.in-Some.is) in
    fault_on (λ (fault : WalkFault). AreOwnPages list own → ((p : Place) → IsOneOf own p.page → p.slot < room c.args.shape → HasMark c.args.marks.now p) → TellsOfChain (IsWrongSlot c.args.shape list own) fault)
    c.from_residual.result _ c.from_residual.ensures.1
    (λ pages can. wrong_of_own c.args.shape list own n c.args.marks.now c.loop-n.marks _ (one_of_at own c.loop-n.n-index 0 c.loop-n-test.true) here.0 c.loop-n.invariant.same can
    (subst (λ (page : List ℕ). TellsOfChain (IsWrongOfPage c.args.shape page n c.loop-n.marks) c.in_err-mark_page.field-0.0) (sym here.1) c.in_err-mark_page.ensures.told))

use Rattle.std.proofs.Common.{List, ℕ, subst, sym}
use Rattle.pages.specs.PageList.{pages_in}
use Rattle.pages.specs.Refused.{RefusesRightly}
use Rattle.pages.proofs.RefusedLemmas.{handed_on}
use Rattle.record_heap.specs.Walk.{ChainAhead, HeapAhead, OwnStands, SlotsKept}
use Rattle.page_walks.proofs.HeapAheadLemmas.{own_is}
use Rattle.record_heap.proofs.WalkLemmas.{path_ends}
use Rattle.pages.proofs.ToldLemmas.{handed_told, tells_on}
use Rattle.record_heap.specs.Faults.{AreOwnPages, IsChainFault, IsHeapFault, IsSlotFault, TellsOfChain}
use Rattle.page_walks.proofs.FaultLemmas.{in_chain, in_heap, own_pages}
use Rattle.page_walks.proofs.heap_walk.walk_heap.Goals as goal

pub returns-clause-walked : goal.returns-clause-walked
returns-clause-walked g c = λ list has.
    let w = rw c.first_page.ensures at (c.in_ok-own.ensures.walked list (c.walk_own.ensures.before list has)) in
    record {
      stands = record {
        chain = path_ends (pages_in list) c.args.heap.now.first c.in_ok-own.own.items w.path;
        apart = w.marks.apart;
        keeps = subst (SlotsKept c.args.heap.now (pages_in list)) c.deref.ensures.value (c.in_ok-walk_own.ensures.kept list has) w.some;
      };
      marks = w.marks;
    }

pub returns-in_err-own-clause-refused : goal.returns-in_err-own-clause-refused
returns-in_err-own-clause-refused g c = λ list has.
    handed_on (ChainAhead (pages_in list) c.args.heap.now.first c.args.reached.now) (HeapAhead c.args.heap.now list c.args.reached.now) c.from_residual.result _ c.from_residual.ensures.1
    (λ a. record { own = a.own; chain = a.stands.chain; apart = a.stands.apart; some = a.some; low = a.low; unmarked = a.unmarked })
    (rw c.first_page.ensures at (c.in_err-own.ensures.refused list has))

pub returns-in_err-walk_own-clause-refused : goal.returns-in_err-walk_own-clause-refused
returns-in_err-walk_own-clause-refused g c = λ list has.
    let heap = c.args.heap.now in
    let w = rw c.first_page.ensures at (c.in_ok-own.ensures.walked list (c.walk_own.ensures.before list has)) in
    let own = c.in_ok-own.own.items in
    handed_on (OwnStands heap list own) (HeapAhead heap list c.args.reached.now) c.from_residual-in_err-walk_own.result _ c.from_residual-in_err-walk_own.ensures.1
    (λ a. (let same = own_is heap list a.own (record { slots = a.slots; stands = a.stands; some = a.some }) own (path_ends (pages_in list) heap.first own w.path) w.some a.low w.low in
    subst (OwnStands heap list) (sym same) (record { slots = a.slots; stands = a.stands; some = a.some })))
    (subst (λ (ns : List ℕ). RefusesRightly (OwnStands heap list ns) c.in_err-walk_own.field-0.0) c.deref.ensures.value (c.in_err-walk_own.ensures.refused list has))

pub returns-in_err-own-clause-told : goal.returns-in_err-own-clause-told
returns-in_err-own-clause-told g c = λ list has.
    let heap = c.args.heap.now in
    tells_on (IsChainFault list heap.first c.args.reached.now) (IsHeapFault heap list c.args.reached.now) c.from_residual.result _ c.from_residual.ensures.1 (in_chain heap list c.args.reached.now)
    (rw c.first_page.ensures at (c.in_err-own.ensures.told list has))

pub returns-in_err-walk_own-clause-told : goal.returns-in_err-walk_own-clause-told
returns-in_err-walk_own-clause-told g c = λ list has.
    let heap = c.args.heap.now in
    let marks = c.args.reached.now in
    let now = c.walk_pages.new.reached in
    let own = c.in_ok-own.own.items in
    let w = rw c.first_page.ensures at (c.in_ok-own.ensures.walked list (c.walk_own.ensures.before list has)) in
    handed_told (IsHeapFault heap list marks) c.from_residual-in_err-walk_own.result _ c.from_residual-in_err-walk_own.ensures.1
    (in_heap heap list marks now own _ w
    (subst (λ (ns : List ℕ). AreOwnPages list ns → TellsOfChain (IsSlotFault heap list ns) c.in_err-walk_own.field-0.0) c.deref.ensures.value (c.in_err-walk_own.ensures.told list has) (own_pages heap list marks now own w)))

use Rattle.std.proofs.Common.{◌≡◌, ℕ, List, [], ◌∷◌, ◌++◌, length, ap, refl, ◌∙◌, arith}
use Rattle.std.proofs.lemmas.List.{length-append}
use Rattle.pages.specs.PageList.{pages_in}
use Rattle.pages.specs.Marks.{IsUnmarked, marked_in}
use Rattle.pages.proofs.MarksLemmas.{marks_none}
use Rattle.pages.proofs.RefusedLemmas.{handed_on, refused}
use Rattle.pages.proofs.ToldLemmas.{handed_told, never_free}
use Rattle.record_heap.specs.Walk.{ChainAhead, IsHeapPageAt}
use Rattle.record_heap.specs.Faults.{IsChainFault, last_heap_page}
use Rattle.page_walks.proofs.FaultLemmas.{last_page_more, tells_page, tells_too_many, tells_twice}
use Rattle.record_heap.proofs.WalkLemmas.{pages_more}
use Rattle.page_walks.proofs.HeapAheadLemmas.{chain_next, chain_over, chain_page, chain_unmarked, page_inside}
use Rattle.page_walks.proofs.heap_walk.walk_pages.Goals as goal

pub loop-preserved : goal.loop-preserved
loop-preserved g c = record {
  walked = λ list has. pages_more (pages_in list) c.args.first c.loop.at c.in_ok-next.next _ (marked_in c.loop.reached) (marked_in c.mark.new.reached) c.loop.own.items c.push.new.self.items
      (c.loop.invariant.walked list (c.page_behind.ensures.before list has)) (c.in_ok-next.ensures.leads list has) c.in_ok-mark.ensures.marked c.if-at-eq0.false c.loop.invariant.low c.in-Ok.ensures.items;
  before = λ list has. c.loop.invariant.before list (c.page_behind.ensures.before list has);
  low = omega arith;
  last = ap last_heap_page c.in-Ok.ensures.items ∙ last_page_more c.loop.own.items c.loop.at;
  long = c.in_ok-mark.ensures.long ∙ c.loop.invariant.long;
  many = let grown : length c.push.new.self.items ≡ length (c.loop.own.items ++ c.loop.at ∷ []) = ap (λ (l : List ℕ). length l) c.in-Ok.ensures.items in
      let more = length-append c.loop.own.items (c.loop.at ∷ []) in
      let many = c.loop.invariant.many in
      omega (arith, grown, more, many);
  ahead = λ list has a. chain_next (pages_in list) c.loop.at c.in_ok-next.next c.loop.reached c.mark.new.reached c.if-at-eq0.false (omega arith) (c.in_ok-next.ensures.leads list has)
      c.in_ok-mark.ensures.marked c.in_ok-mark.ensures.long (c.loop.invariant.ahead list (c.page_behind.ensures.before list has) a);
}

pub returns-in_err-next-clause-refused : goal.returns-in_err-next-clause-refused
returns-in_err-next-clause-refused g c = λ list has.
    handed_on (IsHeapPageAt (pages_in list) c.loop.at) (ChainAhead (pages_in list) c.args.first c.args.reached.now) c.from_residual.result _ c.from_residual.ensures.1
    (λ a. chain_page (pages_in list) c.loop.at c.loop.reached c.if-at-eq0.false (c.loop.invariant.ahead list (c.page_behind.ensures.before list has) a)) (c.in_err-next.ensures.refused list has)

pub returns-in_err-mark-clause-refused : goal.returns-in_err-mark-clause-refused
returns-in_err-mark-clause-refused g c = λ list has.
    handed_on (IsUnmarked c.loop.reached c.loop.at) (ChainAhead (pages_in list) c.args.first c.args.reached.now) c.from_residual-in_err-mark.result _ c.from_residual-in_err-mark.ensures.1
    (λ a. chain_unmarked (pages_in list) c.loop.at c.loop.reached c.if-at-eq0.false (c.loop.invariant.ahead list (c.page_behind.ensures.before list has) a)) c.in_err-mark.ensures.refused

pub returns-then-at-ne0-clause-refused : goal.returns-then-at-ne0-clause-refused
returns-then-at-ne0-clause-refused g c = λ list has.
    refused (ChainAhead (pages_in list) c.args.first c.args.reached.now) c.of_page.result _ _ c.of_page.ensures
    (λ a. chain_over (pages_in list) c.args.first c.loop.at (marked_in c.args.reached.now) c.loop.reached c.loop.own.items c.if-at-ne0.true
    (let many = c.loop.invariant.many in omega (arith, many)) (c.loop.invariant.walked list has) (c.loop.invariant.ahead list has a))

pub loop-init : goal.loop-init
loop-init g c = record {
  walked = λ list has. rw c.new-own.ensures.items (record { path = refl; some = tt; low = tt; marks = marks_none (marked_in c.args.reached.now) });
  before = λ list has. has;
  many = ap (λ (l : List ℕ). length l) c.new-own.ensures.items;
  low = omega arith;
  last = ap last_heap_page c.new-own.ensures.items;
  long = refl;
  ahead = λ list has a. a;
}

pub returns-in_err-next-clause-told : goal.returns-in_err-next-clause-told
returns-in_err-next-clause-told g c = λ list has.
    handed_told (IsChainFault list c.args.first c.args.reached.now) c.from_residual.result _ c.from_residual.ensures.1
    (tells_page list c.args.first c.loop.from c.loop.at c.args.reached.now c.loop.reached c.loop.own.items (c.loop.invariant.walked list (c.page_behind.ensures.before list has)) c.if-at-eq0.false
    c.loop.invariant.last _ (c.in_err-next.ensures.told list has))

pub returns-in_err-mark-clause-told : goal.returns-in_err-mark-clause-told
returns-in_err-mark-clause-told g c = λ list has.
    let here = c.in_ok-next.ensures.leads list has in
    handed_told (IsChainFault list c.args.first c.args.reached.now) c.from_residual-in_err-mark.result _ c.from_residual-in_err-mark.ensures.1
    (tells_twice list c.args.first c.loop.from c.loop.at c.args.reached.now c.loop.reached c.loop.own.items (c.loop.invariant.walked list (c.page_behind.ensures.before list has)) c.if-at-eq0.false
    c.loop.invariant.last _ c.in_err-mark.ensures.told
    (page_inside list c.loop.at here.bytes here.there) c.loop.invariant.long (never_free (IsUnmarked c.loop.reached c.loop.at) _ _ c.in_err-mark.ensures.told c.in_err-mark.ensures.refused))

pub returns-then-at-ne0-clause-told : goal.returns-then-at-ne0-clause-told
returns-then-at-ne0-clause-told g c = λ list has.
    tells_too_many list c.args.first c.loop.from c.loop.at c.args.reached.now c.loop.reached c.loop.own.items (c.loop.invariant.walked list has) c.if-at-ne0.true c.loop.invariant.last _ c.of_page.ensures
    (let many = c.loop.invariant.many in let long = c.loop.invariant.long in omega (arith, many, long))

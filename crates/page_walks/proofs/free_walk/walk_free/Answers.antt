use Rattle.std.proofs.Common.{◌≡◌, ◌-◌, ◌+◌, ◌<◌, ℕ, add-one, arith, refl, subst, ◌∙◌}
use Rattle.page_walks.specs.FreeWalk.{FreeAhead, FreeFront, IsFreePage}
use Rattle.pages.specs.Marks.{IsUnmarked, marked_in}
use Rattle.pages.proofs.RefusedLemmas.{handed_on, refused}
use Rattle.page_walks.proofs.FreeLemmas.{free_none, free_more, free_walked}
use Rattle.page_walks.proofs.FreeAheadLemmas.{ahead_free, ahead_unmarked, ahead_next, ahead_ends}
use Rattle.page_walks.specs.FreeWalk.{IsFreeFault}
use Rattle.page_walks.proofs.FreeFaultLemmas.{tells_more_pages, tells_next, tells_shared}
use Rattle.pages.proofs.ToldLemmas.{handed_told, never_free}
use Rattle.page_walks.proofs.free_walk.walk_free.Goals as goal

pub loop-init : goal.loop-init
loop-init g c = record {
  front = λ list has. free_none list c.args.first (marked_in c.args.reached.now);
  ahead = λ list has a. (let same : c.args.count ≡ c.args.count - 0 = omega arith in subst (λ (n : ℕ). FreeAhead list c.args.first n c.args.reached.now) same a);
  before = λ list has. has;
  long = refl;
}

pub loop-preserved : goal.loop-preserved
loop-preserved g c = record {
  front = λ list has. rw add-one (free_more list c.args.first c.loop.from c.loop.at c.in_ok-next.next c.loop.counter (marked_in c.args.reached.now) (marked_in c.loop.reached) (marked_in c.mark.new.reached)
      (c.loop.invariant.front list (c.behind.ensures.before list has)) (c.in_ok-next.ensures.leads list has) c.in_ok-mark.ensures.marked);
  ahead = λ list has a. ahead_next list c.loop.at c.in_ok-next.next (c.args.count - c.loop.counter) (c.args.count - (c.loop.counter + 1)) c.loop.reached c.mark.new.reached
      (let more : c.loop.counter < c.args.count = c.loop-test.true in omega arith) (c.in_ok-next.ensures.leads list has) c.in_ok-mark.ensures.marked c.in_ok-mark.ensures.long
      (c.loop.invariant.ahead list (c.behind.ensures.before list has) a);
  before = λ list has. c.loop.invariant.before list (c.behind.ensures.before list has);
  long = c.in_ok-mark.ensures.long ∙ c.loop.invariant.long;
}

pub returns-in_err-next-clause-refused : goal.returns-in_err-next-clause-refused
returns-in_err-next-clause-refused g c = λ list has.
    handed_on (IsFreePage list c.loop.at) (FreeAhead list c.args.first c.args.count c.args.reached.now) c.from_residual.result _ c.from_residual.ensures.1
    (λ a. ahead_free list c.loop.at (c.args.count - c.loop.counter) c.loop.reached (let more : c.loop.counter < c.args.count = c.loop-test.true in omega arith)
    (c.loop.invariant.ahead list (c.behind.ensures.before list has) a))
    (c.in_err-next.ensures.refused list has)

pub returns-in_err-mark-clause-refused : goal.returns-in_err-mark-clause-refused
returns-in_err-mark-clause-refused g c = λ list has.
    handed_on (IsUnmarked c.loop.reached c.loop.at) (FreeAhead list c.args.first c.args.count c.args.reached.now) c.from_residual-in_err-mark.result _ c.from_residual-in_err-mark.ensures.1
    (λ a. ahead_unmarked list c.loop.at (c.args.count - c.loop.counter) c.loop.reached (let more : c.loop.counter < c.args.count = c.loop-test.true in omega arith)
    (c.loop.invariant.ahead list (c.behind.ensures.before list has) a))
    c.in_err-mark.ensures.refused

pub returns-then-at-ne0-clause-refused : goal.returns-then-at-ne0-clause-refused
returns-then-at-ne0-clause-refused g c = λ list has.
    let end : c.loop.counter ≡ c.args.count = (let over = c.loop.auto.counter-end in omega (arith, over, c.loop-test.false)) in
    refused (FreeAhead list c.args.first c.args.count c.args.reached.now) c.of_page.result _ _ c.of_page.ensures
    (λ a. c.if-at-ne0.true (ahead_ends list c.loop.at (c.args.count - c.loop.counter) c.loop.reached (omega arith) (c.loop.invariant.ahead list has a)))

pub returns-clause-walked : goal.returns-clause-walked
returns-clause-walked g c = λ list has.
    let end : c.loop.counter ≡ c.args.count = (let over = c.loop.auto.counter-end in omega (arith, over, c.loop-test.false)) in
    free_walked list c.args.first c.loop.from c.args.count (marked_in c.args.reached.now) (marked_in c.loop.reached)
    (subst (λ (n : ℕ). FreeFront list c.args.first c.loop.from 0 n (marked_in c.args.reached.now) (marked_in c.loop.reached)) end
    (subst (λ (at : ℕ). FreeFront list c.args.first c.loop.from at c.loop.counter (marked_in c.args.reached.now) (marked_in c.loop.reached)) c.if-at-ne0.false (c.loop.invariant.front list has)))

pub returns-in_err-next-clause-told : goal.returns-in_err-next-clause-told
returns-in_err-next-clause-told g c = λ list has.
    handed_told (IsFreeFault list c.args.first c.args.count c.args.reached.now) c.from_residual.result _ c.from_residual.ensures.1
    (tells_next list c.args.first c.args.count c.loop.from c.loop.at c.loop.counter c.args.reached.now c.loop.reached (c.loop.invariant.front list (c.behind.ensures.before list has)) _
    c.loop-test.true (c.in_err-next.ensures.told list has))

pub returns-in_err-mark-clause-told : goal.returns-in_err-mark-clause-told
returns-in_err-mark-clause-told g c = λ list has.
    handed_told (IsFreeFault list c.args.first c.args.count c.args.reached.now) c.from_residual-in_err-mark.result _ c.from_residual-in_err-mark.ensures.1
    (tells_shared list c.args.first c.args.count c.loop.from c.loop.at c.loop.counter c.args.reached.now c.loop.reached (c.loop.invariant.front list (c.behind.ensures.before list has)) _
    c.in_err-mark.ensures.told c.loop-test.true (c.in_ok-next.ensures.leads list has).inside c.loop.invariant.long
    (never_free (IsUnmarked c.loop.reached c.loop.at) _ _ c.in_err-mark.ensures.told c.in_err-mark.ensures.refused))

pub returns-then-at-ne0-clause-told : goal.returns-then-at-ne0-clause-told
returns-then-at-ne0-clause-told g c = λ list has.
    let end : c.loop.counter ≡ c.args.count = (let over = c.loop.auto.counter-end in omega (arith, over, c.loop-test.false)) in
    tells_more_pages list c.args.first c.args.count c.loop.from c.loop.at c.loop.counter c.args.reached.now c.loop.reached (c.loop.invariant.front list has) _ c.of_page.ensures end c.if-at-ne0.true

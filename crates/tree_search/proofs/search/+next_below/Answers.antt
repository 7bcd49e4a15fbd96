use Rattle.std.proofs.Common.{◌≡◌, ℕ, ◌-◌, suc, Option, Ok, subst, ap, arith, ◌∙◌}
use Rattle.std.proofs.lemmas.Result.{err_from_is_err_and}
use Rattle.pages.proofs.CauseLemmas.{fails_since}
use Rattle.arrayvec.specs.ArrayVec.{ArrayVec}
use Rattle.tree_search.specs.Search.{FindsFilled, first_of}
use Rattle.tree_search.proofs.SearchLemmas.{next_leaf, next_down_fails, next_child_fails, next_found, next_none, next_behind, next_behind_fails}
use Rattle.tree_search.specs.Spot.{Spots}
use Rattle.tree_search.proofs.SpotLemmas.{spots_leaf, spots_fails, spots_below, spots_behind}
use Rattle.tree_search.proofs.search.+next_below.Goals as goal

pub returns-then-levels-eq0-clause-found : goal.returns-then-levels-eq0-clause-found
returns-then-levels-eq0-clause-found g m c honest =
    next_leaf c.args.shape ((g.P.Pages.shown.state c.args.pages.now).live) c.args.levels c.args.page (first_of c.args.past c.args.shape.width c.args.key.now) c.next_in_leaf.result c.if-levels-eq0.true (c.next_in_leaf.ensures.looks.found honest)

pub returns-in_err-down-clause-found : goal.returns-in_err-down-clause-found
returns-in_err-down-clause-found g m c honest =
    let one : c.args.levels ≡ suc (c.args.levels - 1) = omega arith in
    next_down_fails c.args.shape ((g.P.Pages.shown.state c.args.pages.now).live) c.args.levels (c.args.levels - 1) c.args.page c.args.key.now c.args.past one _ c.from_residual.result (c.in_err-down.ensures.found honest) c.from_residual.ensures.1

pub returns-in_err-found-clause-found : goal.returns-in_err-found-clause-found
returns-in_err-found-clause-found g m c honest =
    let one : c.args.levels ≡ suc (c.args.levels - 1) = omega arith in
    let h1 = g.met.P.Pages.writes_honestly c.descend.new.pages c.next_below.new.pages (g.met.P.Pages.reads_writes c.descend.new.pages c.next_below.new.pages c.next_below.ensures.asks.reads.step) honest in
    next_child_fails c.args.shape ((g.P.Pages.shown.state c.args.pages.now).live) c.args.levels (c.args.levels - 1) c.args.page c.args.key.now c.args.past one ((g.P.Pages.shown.state c.descend.new.pages).live) (g.met.P.Pages.reads_live c.args.pages.now c.descend.new.pages c.descend.ensures.reads.step h1)
    c.in_ok-down.down (c.in_ok-down.ensures.found h1) _ c.from_residual-in_err-found.result (c.in_err-found.ensures.found honest) c.from_residual-in_err-found.ensures.1

pub returns-in-Some-clause-found : goal.returns-in-Some-clause-found
returns-in-Some-clause-found g m c honest =
    let one : c.args.levels ≡ suc (c.args.levels - 1) = omega arith in
    let h1 = g.met.P.Pages.writes_honestly c.descend.new.pages c.next_below.new.pages (g.met.P.Pages.reads_writes c.descend.new.pages c.next_below.new.pages c.next_below.ensures.asks.reads.step) honest in
    let mid = (g.P.Pages.shown.state c.descend.new.pages).live in
    let finds = subst (λ (o : Option (ArrayVec ℕ)). FindsFilled c.args.shape mid (c.args.levels - 1) c.in_ok-down.down.child (first_of c.args.past c.args.shape.width c.args.key.now) (Ok o)) c.in-Some.is (c.in_ok-found.ensures.found honest) in
    next_found c.args.shape ((g.P.Pages.shown.state c.args.pages.now).live) c.args.levels (c.args.levels - 1) c.args.page c.args.key.now c.args.past one mid (g.met.P.Pages.reads_live c.args.pages.now c.descend.new.pages c.descend.ensures.reads.step h1)
    c.in_ok-down.down (c.in_ok-down.ensures.found h1) c.in-Some.found finds

pub returns-then-down-clause-found : goal.returns-then-down-clause-found
returns-then-down-clause-found g m c honest =
    let one : c.args.levels ≡ suc (c.args.levels - 1) = omega arith in
    let h1 = g.met.P.Pages.writes_honestly c.descend.new.pages c.next_below.new.pages (g.met.P.Pages.reads_writes c.descend.new.pages c.next_below.new.pages c.next_below.ensures.asks.reads.step) honest in
    let mid = (g.P.Pages.shown.state c.descend.new.pages).live in
    let finds = subst (λ (o : Option (ArrayVec ℕ)). FindsFilled c.args.shape mid (c.args.levels - 1) c.in_ok-down.down.child (first_of c.args.past c.args.shape.width c.args.key.now) (Ok o)) c.in_default.is (c.in_ok-found.ensures.found honest) in
    next_none c.args.shape ((g.P.Pages.shown.state c.args.pages.now).live) c.args.levels (c.args.levels - 1) c.args.page c.args.key.now c.args.past one mid (g.met.P.Pages.reads_live c.args.pages.now c.descend.new.pages c.descend.ensures.reads.step h1)
    c.in_ok-down.down (c.in_ok-down.ensures.found h1) c.if-down.true finds

pub returns-in_err-first-clause-found : goal.returns-in_err-first-clause-found
returns-in_err-first-clause-found g m c honest =
    let one : c.args.levels ≡ suc (c.args.levels - 1) = omega arith in
    let h2 = g.met.P.Pages.writes_honestly c.next_below.new.pages c.first_below.new.pages (g.met.P.Pages.reads_writes c.next_below.new.pages c.first_below.new.pages c.first_below.ensures.reads.step) honest in
    let h1 = g.met.P.Pages.writes_honestly c.descend.new.pages c.next_below.new.pages (g.met.P.Pages.reads_writes c.descend.new.pages c.next_below.new.pages c.next_below.ensures.asks.reads.step) h2 in
    let live = g.met.P.Pages.reads_live c.args.pages.now c.descend.new.pages c.descend.ensures.reads.step h1 in
    next_behind_fails c.args.shape ((g.P.Pages.shown.state c.args.pages.now).live) c.args.levels (c.args.levels - 1) c.args.page c.args.key.now c.args.past one ((g.P.Pages.shown.state c.descend.new.pages).live) live
    c.in_ok-down.down (c.in_ok-down.ensures.found h1) ((g.P.Pages.shown.state c.next_below.new.pages).live) _ c.from_residual-in_err-first.result (g.met.P.Pages.reads_live c.descend.new.pages c.next_below.new.pages c.next_below.ensures.asks.reads.step h2 ∙ live) c.if-down.false
    (c.in_err-first.ensures.first honest) c.from_residual-in_err-first.ensures.1

pub returns-clause-found : goal.returns-clause-found
returns-clause-found g m c honest =
    let one : c.args.levels ≡ suc (c.args.levels - 1) = omega arith in
    let h2 = g.met.P.Pages.writes_honestly c.next_below.new.pages c.first_below.new.pages (g.met.P.Pages.reads_writes c.next_below.new.pages c.first_below.new.pages c.first_below.ensures.reads.step) honest in
    let h1 = g.met.P.Pages.writes_honestly c.descend.new.pages c.next_below.new.pages (g.met.P.Pages.reads_writes c.descend.new.pages c.next_below.new.pages c.next_below.ensures.asks.reads.step) h2 in
    let live = g.met.P.Pages.reads_live c.args.pages.now c.descend.new.pages c.descend.ensures.reads.step h1 in
    let mid = (g.P.Pages.shown.state c.descend.new.pages).live in
    let finds = subst (λ (o : Option (ArrayVec ℕ)). FindsFilled c.args.shape mid (c.args.levels - 1) c.in_ok-down.down.child (first_of c.args.past c.args.shape.width c.args.key.now) (Ok o)) c.in_default.is (c.in_ok-found.ensures.found h2) in
    next_behind c.args.shape ((g.P.Pages.shown.state c.args.pages.now).live) c.args.levels (c.args.levels - 1) c.args.page c.args.key.now c.args.past one mid live
    c.in_ok-down.down (c.in_ok-down.ensures.found h1) ((g.P.Pages.shown.state c.next_below.new.pages).live) c.in_ok-first.first (g.met.P.Pages.reads_live c.descend.new.pages c.next_below.new.pages c.next_below.ensures.asks.reads.step h2 ∙ live) c.if-down.false finds (c.in_ok-first.ensures.first honest)

pub returns-then-levels-eq0-clause-spot : goal.returns-then-levels-eq0-clause-spot
returns-then-levels-eq0-clause-spot g m c honest =
    spots_leaf c.args.shape ((g.P.Pages.shown.state c.args.pages.now).live) c.args.levels c.args.page c.next_in_leaf.new.spot c.next_in_leaf.result c.if-levels-eq0.true (c.next_in_leaf.ensures.spot honest)

pub returns-in_err-down-clause-spot : goal.returns-in_err-down-clause-spot
returns-in_err-down-clause-spot g m c honest = spots_fails c.args.shape ((g.P.Pages.shown.state c.args.pages.now).live) c.args.levels c.args.page _ _ c.from_residual.result c.from_residual.ensures.1

pub returns-in_err-found-clause-spot : goal.returns-in_err-found-clause-spot
returns-in_err-found-clause-spot g m c honest = spots_fails c.args.shape ((g.P.Pages.shown.state c.args.pages.now).live) c.args.levels c.args.page _ _ c.from_residual-in_err-found.result c.from_residual-in_err-found.ensures.1

pub returns-in_err-first-clause-spot : goal.returns-in_err-first-clause-spot
returns-in_err-first-clause-spot g m c honest = spots_fails c.args.shape ((g.P.Pages.shown.state c.args.pages.now).live) c.args.levels c.args.page _ _ c.from_residual-in_err-first.result c.from_residual-in_err-first.ensures.1

pub returns-then-down-clause-spot : goal.returns-then-down-clause-spot
returns-then-down-clause-spot g m c honest t low high tree filled = tt

pub returns-in-Some-clause-spot : goal.returns-in-Some-clause-spot
returns-in-Some-clause-spot g m c honest =
    let one : c.args.levels ≡ suc (c.args.levels - 1) = omega arith in
    let h1 = g.met.P.Pages.writes_honestly c.descend.new.pages c.next_below.new.pages (g.met.P.Pages.reads_writes c.descend.new.pages c.next_below.new.pages c.next_below.ensures.asks.reads.step) honest in
    let mid = (g.P.Pages.shown.state c.descend.new.pages).live in
    let spots = subst (λ (o : Option (ArrayVec ℕ)). Spots c.args.shape mid (c.args.levels - 1) c.in_ok-down.down.child c.next_below.new.spot (Ok o)) c.in-Some.is (c.in_ok-found.ensures.spot honest) in
    spots_below c.args.shape ((g.P.Pages.shown.state c.args.pages.now).live) c.args.levels (c.args.levels - 1) c.args.page c.args.key.now one c.in_ok-down.down (c.in_ok-down.ensures.found h1) c.next_below.new.spot mid c.in-Some.found
    (g.met.P.Pages.reads_live c.args.pages.now c.descend.new.pages c.descend.ensures.reads.step h1) spots

pub returns-clause-spot : goal.returns-clause-spot
returns-clause-spot g m c honest =
    let one : c.args.levels ≡ suc (c.args.levels - 1) = omega arith in
    let h2 = g.met.P.Pages.writes_honestly c.next_below.new.pages c.first_below.new.pages (g.met.P.Pages.reads_writes c.next_below.new.pages c.first_below.new.pages c.first_below.ensures.reads.step) honest in
    let h1 = g.met.P.Pages.writes_honestly c.descend.new.pages c.next_below.new.pages (g.met.P.Pages.reads_writes c.descend.new.pages c.next_below.new.pages c.next_below.ensures.asks.reads.step) h2 in
    let live = g.met.P.Pages.reads_live c.args.pages.now c.descend.new.pages c.descend.ensures.reads.step h1 in
    spots_behind c.args.shape ((g.P.Pages.shown.state c.args.pages.now).live) c.args.levels (c.args.levels - 1) c.args.page c.args.key.now one c.in_ok-down.down (c.in_ok-down.ensures.found h1) c.first_below.new.spot ((g.P.Pages.shown.state c.next_below.new.pages).live) c.in_ok-first.first
    (g.met.P.Pages.reads_live c.descend.new.pages c.next_below.new.pages c.next_below.ensures.asks.reads.step h2 ∙ live) c.if-down.false (c.in_ok-first.ensures.spot honest)

pub first_below-requires : goal.first_below-requires
first_below-requires g m c = record {
  ready =
      g.met.P.Pages.writes_ready c.descend.new.pages c.next_below.new.pages (g.met.P.Pages.reads_writes c.descend.new.pages c.next_below.new.pages c.next_below.ensures.asks.reads.step)
      (g.met.P.Pages.writes_ready c.args.pages.now c.descend.new.pages (g.met.P.Pages.reads_writes c.args.pages.now c.descend.new.pages c.descend.ensures.reads.step) c.requires.ready);
}

pub returns-in_err-first-clause-asks : goal.returns-in_err-first-clause-asks
returns-in_err-first-clause-asks g m c =
    let old = c.args.pages.now in
    let mid = c.next_below.new.pages in
    let new = c.first_below.new.pages in
    let one : c.args.levels ≡ suc (c.args.levels - 1) = omega arith in
    let few = c.in_ok-found.ensures.asks.none (ap Ok c.in_default.is) in
    let before = g.met.P.Pages.reads_on old c.descend.new.pages mid c.descend.ensures.reads.step c.next_below.ensures.asks.reads.step in
    let since = g.met.P.Pages.failed_after old mid new (g.met.P.Pages.reads_writes old mid before) in
    let is = (err_from_is_err_and c.from_residual-in_err-first.result c.from_residual-in_err-first.ensures.1).1 in
    record {
      none = λ none. absurd (cc);
      reads = record {
        cause = fails_since c.from_residual-in_err-first.result _ _ _ _ _ c.from_residual-in_err-first.ensures.1 since (λ none. none) c.in_err-first.ensures.reads.cause;
        asked = omega (arith, few, c.descend.ensures.reads.asked, c.first_below.ensures.reads.asked);
        step = g.met.P.Pages.reads_on old mid new before c.first_below.ensures.reads.step;
      };
    }

pub returns-clause-asks : goal.returns-clause-asks
returns-clause-asks g m c =
    let old = c.args.pages.now in
    let mid = c.next_below.new.pages in
    let new = c.first_below.new.pages in
    let one : c.args.levels ≡ suc (c.args.levels - 1) = omega arith in
    let few = c.in_ok-found.ensures.asks.none (ap Ok c.in_default.is) in
    let before = g.met.P.Pages.reads_on old c.descend.new.pages mid c.descend.ensures.reads.step c.next_below.ensures.asks.reads.step in
    record {
      none = λ none. absurd (cc);
      reads = record {
        cause = tt;
        asked = omega (arith, few, c.descend.ensures.reads.asked, c.first_below.ensures.reads.asked);
        step = g.met.P.Pages.reads_on old mid new before c.first_below.ensures.reads.step;
      };
    }

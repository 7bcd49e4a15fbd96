use Rattle.std.proofs.lemmas.Grind.{common_steps}
use Rattle.pages.proofs.CauseLemmas.{fails_since}
use Rattle.std.proofs.Common.{◌≡◌, ◌-◌, ◌++◌, Bool, Option, Some, suc, arith, sym, subst, ◌∙◌}
use Rattle.tree_search.specs.Search.{filled}
use Rattle.tree_search.specs.Range.{Begin, only, told_seen, first_with}
use Rattle.tree_search.proofs.RangeRowLemmas.{seen_fails, begins_alone, begins_before, sights_leaf, sights_fail, sights_child_fails, sights_settled, sights_open, sights_past, sights_behind, sights_behind_fails}
use Rattle.tree_search.proofs.range.+look_below.Goals as goal

pub returns-then-levels-eq0-clause-sight : goal.returns-then-levels-eq0-clause-sight
returns-then-levels-eq0-clause-sight g m c honest =
    sights_leaf c.args.shape ((g.P.Pages.shown.state c.args.pages.now).live) c.args.levels c.args.page c.args.from.now c.args.to.now (told_seen c.look_in_leaf.new.entry c.look_in_leaf.result) c.if-levels-eq0.true (c.look_in_leaf.ensures.found honest)

pub returns-in_err-fork-clause-sight : goal.returns-in_err-fork-clause-sight
returns-in_err-fork-clause-sight g m c honest =
    let one : c.args.levels ≡ suc (c.args.levels - 1) = omega arith in
    sights_fail c.args.shape ((g.P.Pages.shown.state c.args.pages.now).live) c.args.levels (c.args.levels - 1) c.args.page c.args.from.now c.args.to.now one
    _ (told_seen c.args.entry.now c.from_residual.result) (c.in_err-fork.ensures.found honest) (seen_fails c.args.entry.now _ c.from_residual.result c.from_residual.ensures.1)

pub returns-in_err-found-clause-sight : goal.returns-in_err-found-clause-sight
returns-in_err-found-clause-sight g m c honest =
    let one : c.args.levels ≡ suc (c.args.levels - 1) = omega arith in
    let h1 = g.met.P.Pages.writes_honestly c.fork_at.new.pages c.look_below.new.pages (g.met.P.Pages.reads_writes c.fork_at.new.pages c.look_below.new.pages c.look_below.ensures.reads.step) honest in
    sights_child_fails c.args.shape ((g.P.Pages.shown.state c.args.pages.now).live) c.args.levels (c.args.levels - 1) c.args.page c.args.from.now c.args.to.now one
    ((g.P.Pages.shown.state c.fork_at.new.pages).live) (g.met.P.Pages.reads_live c.args.pages.now c.fork_at.new.pages c.fork_at.ensures.reads.step h1) c.in_ok-fork.fork (c.in_ok-fork.ensures.found h1)
    _ (told_seen c.look_below.new.entry c.from_residual-in_err-found.result) (c.in_err-found.ensures.sight honest)
    (seen_fails c.look_below.new.entry _ c.from_residual-in_err-found.result c.from_residual-in_err-found.ensures.1)

pub returns-in-Answered-clause-sight : goal.returns-in-Answered-clause-sight
returns-in-Answered-clause-sight g m c honest =
    let one : c.args.levels ≡ suc (c.args.levels - 1) = omega arith in
    let h1 = g.met.P.Pages.writes_honestly c.fork_at.new.pages c.look_below.new.pages (g.met.P.Pages.reads_writes c.fork_at.new.pages c.look_below.new.pages c.look_below.ensures.reads.step) honest in
    let mid = (g.P.Pages.shown.state c.fork_at.new.pages).live in
    sights_settled c.args.shape ((g.P.Pages.shown.state c.args.pages.now).live) c.args.levels (c.args.levels - 1) c.args.page c.args.from.now c.args.to.now one
    mid (g.met.P.Pages.reads_live c.args.pages.now c.fork_at.new.pages c.fork_at.ensures.reads.step h1) c.in_ok-fork.fork (c.in_ok-fork.ensures.found h1)
    (first_with c.look_below.new.entry c.in-Answered.found) (rw c.in-Answered.is at (c.in_ok-found.ensures.sight honest))

pub returns-then-fork-clause-sight : goal.returns-then-fork-clause-sight
returns-then-fork-clause-sight g m c honest =
    let one : c.args.levels ≡ suc (c.args.levels - 1) = omega arith in
    let h1 = g.met.P.Pages.writes_honestly c.fork_at.new.pages c.look_below.new.pages (g.met.P.Pages.reads_writes c.fork_at.new.pages c.look_below.new.pages c.look_below.ensures.reads.step) honest in
    let live = g.met.P.Pages.reads_live c.args.pages.now c.fork_at.new.pages c.fork_at.ensures.reads.step h1 in
    sights_past c.args.shape ((g.P.Pages.shown.state c.args.pages.now).live) c.args.levels (c.args.levels - 1) c.args.page c.args.from.now c.args.to.now one
    ((g.P.Pages.shown.state c.fork_at.new.pages).live) live c.in_ok-fork.fork (c.in_ok-fork.ensures.found h1)
    (filled c.look_below.new.entry c.in-Unended.here) (first_with c.look_below.new.entry c.alone.result) c.if-fork.true
    (λ others none. subst (λ (o : Option Bool). Begin (only (filled c.look_below.new.entry c.in-Unended.here) ++ others) (first_with c.look_below.new.entry o)) (sym c.alone.ensures)
    (begins_alone c.look_below.new.entry c.in-Unended.here others none)) (rw c.in-Unended.is at (c.in_ok-found.ensures.sight honest))

pub returns-then-fork-2-clause-sight : goal.returns-then-fork-2-clause-sight
returns-then-fork-2-clause-sight g m c honest =
    let one : c.args.levels ≡ suc (c.args.levels - 1) = omega arith in
    let h1 = g.met.P.Pages.writes_honestly c.fork_at.new.pages c.look_below.new.pages (g.met.P.Pages.reads_writes c.fork_at.new.pages c.look_below.new.pages c.look_below.ensures.reads.step) honest in
    let live = g.met.P.Pages.reads_live c.args.pages.now c.fork_at.new.pages c.fork_at.ensures.reads.step h1 in
    sights_open c.args.shape ((g.P.Pages.shown.state c.args.pages.now).live) c.args.levels (c.args.levels - 1) c.args.page c.args.from.now c.args.to.now one
    ((g.P.Pages.shown.state c.fork_at.new.pages).live) live c.in_ok-fork.fork (c.in_ok-fork.ensures.found h1)
    (filled c.look_below.new.entry c.in-Unended.here) c.if-fork-2.true (rw c.in-Unended.is at (c.in_ok-found.ensures.sight honest))

pub returns-in_err-followed-clause-sight : goal.returns-in_err-followed-clause-sight
returns-in_err-followed-clause-sight g m c honest =
    let one : c.args.levels ≡ suc (c.args.levels - 1) = omega arith in
    let h2 = g.met.P.Pages.writes_honestly c.look_below.new.pages c.has_front.new.pages (g.met.P.Pages.reads_writes c.look_below.new.pages c.has_front.new.pages c.has_front.ensures.reads.step) honest in
    let h1 = g.met.P.Pages.writes_honestly c.fork_at.new.pages c.look_below.new.pages (g.met.P.Pages.reads_writes c.fork_at.new.pages c.look_below.new.pages c.look_below.ensures.reads.step) h2 in
    let live = g.met.P.Pages.reads_live c.args.pages.now c.fork_at.new.pages c.fork_at.ensures.reads.step h1 in
    sights_behind_fails c.args.shape ((g.P.Pages.shown.state c.args.pages.now).live) c.args.levels (c.args.levels - 1) c.args.page c.args.from.now c.args.to.now one
    ((g.P.Pages.shown.state c.fork_at.new.pages).live) live c.in_ok-fork.fork (c.in_ok-fork.ensures.found h1)
    ((g.P.Pages.shown.state c.look_below.new.pages).live) _ (told_seen c.look_below.new.entry c.from_residual-in_err-followed.result) (g.met.P.Pages.reads_live c.fork_at.new.pages c.look_below.new.pages c.look_below.ensures.reads.step h2 ∙ live) c.if-fork-2.false
    (c.in_err-followed.ensures.found honest) (seen_fails c.look_below.new.entry _ c.from_residual-in_err-followed.result c.from_residual-in_err-followed.ensures.1)

pub returns-in_err-followed-clause-reads : goal.returns-in_err-followed-clause-reads
returns-in_err-followed-clause-reads g m c =
    let old = c.args.pages.now in
    let mid = c.look_below.new.pages in
    let new = c.has_front.new.pages in
    let before = g.met.P.Pages.reads_on old c.fork_at.new.pages mid c.fork_at.ensures.reads.step c.look_below.ensures.reads.step in
    let since = g.met.P.Pages.failed_after old mid new (g.met.P.Pages.reads_writes old mid before) in
    record {
      cause = fails_since c.from_residual-in_err-followed.result _ _ _ _ _ c.from_residual-in_err-followed.ensures.1 since (λ none. none) c.in_err-followed.ensures.reads.cause;
      asked = grind (arith, common_steps);
      step = g.met.P.Pages.reads_on old mid new before c.has_front.ensures.reads.step;
    }

pub returns-then-here-clause-sight : goal.returns-then-here-clause-sight
returns-then-here-clause-sight g m c honest =
    let one : c.args.levels ≡ suc (c.args.levels - 1) = omega arith in
    let h2 = g.met.P.Pages.writes_honestly c.look_below.new.pages c.has_front.new.pages (g.met.P.Pages.reads_writes c.look_below.new.pages c.has_front.new.pages c.has_front.ensures.reads.step) honest in
    let h1 = g.met.P.Pages.writes_honestly c.fork_at.new.pages c.look_below.new.pages (g.met.P.Pages.reads_writes c.fork_at.new.pages c.look_below.new.pages c.look_below.ensures.reads.step) h2 in
    let live = g.met.P.Pages.reads_live c.args.pages.now c.fork_at.new.pages c.fork_at.ensures.reads.step h1 in
    let entry = c.look_below.new.entry in
    let told = c.in_ok-followed.followed in
    let front = c.in_ok-followed.ensures.found honest in
    sights_behind c.args.shape ((g.P.Pages.shown.state c.args.pages.now).live) c.args.levels (c.args.levels - 1) c.args.page c.args.from.now c.args.to.now one
    ((g.P.Pages.shown.state c.fork_at.new.pages).live) live c.in_ok-fork.fork (c.in_ok-fork.ensures.found h1)
    ((g.P.Pages.shown.state c.look_below.new.pages).live) (filled entry c.in-Unended.here) front.0 (first_with entry (Some told))
    (g.met.P.Pages.reads_live c.fork_at.new.pages c.look_below.new.pages c.look_below.ensures.reads.step h2 ∙ live) c.if-fork-2.false
    (rw c.in-Unended.is at (c.in_ok-found.ensures.sight h2)) front.1.0
    (λ others begin. subst (λ (b : Bool). Begin (only (filled entry b) ++ others) (first_with entry (Some told))) (sym c.if-here.true) (begins_before entry told front.0 front.1.1 others begin))

pub returns-then-here-clause-reads : goal.returns-then-here-clause-reads
returns-then-here-clause-reads g m c =
    record { cause = tt; asked = grind (arith, common_steps); step = g.met.P.Pages.reads_on c.args.pages.now c.look_below.new.pages c.has_front.new.pages (g.met.P.Pages.reads_on c.args.pages.now c.fork_at.new.pages c.look_below.new.pages c.fork_at.ensures.reads.step c.look_below.ensures.reads.step) c.has_front.ensures.reads.step }

pub returns-in_err-front-clause-sight : goal.returns-in_err-front-clause-sight
returns-in_err-front-clause-sight g m c honest =
    let one : c.args.levels ≡ suc (c.args.levels - 1) = omega arith in
    let h2 = g.met.P.Pages.writes_honestly c.look_below.new.pages c.front_below.new.pages (g.met.P.Pages.reads_writes c.look_below.new.pages c.front_below.new.pages c.front_below.ensures.reads.step) honest in
    let h1 = g.met.P.Pages.writes_honestly c.fork_at.new.pages c.look_below.new.pages (g.met.P.Pages.reads_writes c.fork_at.new.pages c.look_below.new.pages c.look_below.ensures.reads.step) h2 in
    let live = g.met.P.Pages.reads_live c.args.pages.now c.fork_at.new.pages c.fork_at.ensures.reads.step h1 in
    sights_behind_fails c.args.shape ((g.P.Pages.shown.state c.args.pages.now).live) c.args.levels (c.args.levels - 1) c.args.page c.args.from.now c.args.to.now one
    ((g.P.Pages.shown.state c.fork_at.new.pages).live) live c.in_ok-fork.fork (c.in_ok-fork.ensures.found h1)
    ((g.P.Pages.shown.state c.look_below.new.pages).live) _ (told_seen c.front_below.new.entry c.from_residual-in_err-front.result) (g.met.P.Pages.reads_live c.fork_at.new.pages c.look_below.new.pages c.look_below.ensures.reads.step h2 ∙ live) c.if-fork-2.false
    (c.in_err-front.ensures.found honest) (seen_fails c.front_below.new.entry _ c.from_residual-in_err-front.result c.from_residual-in_err-front.ensures.1)

pub returns-in_err-front-clause-reads : goal.returns-in_err-front-clause-reads
returns-in_err-front-clause-reads g m c =
    let old = c.args.pages.now in
    let mid = c.look_below.new.pages in
    let new = c.front_below.new.pages in
    let before = g.met.P.Pages.reads_on old c.fork_at.new.pages mid c.fork_at.ensures.reads.step c.look_below.ensures.reads.step in
    let since = g.met.P.Pages.failed_after old mid new (g.met.P.Pages.reads_writes old mid before) in
    record {
      cause = fails_since c.from_residual-in_err-front.result _ _ _ _ _ c.from_residual-in_err-front.ensures.1 since (λ none. none) c.in_err-front.ensures.reads.cause;
      asked = grind (arith, common_steps);
      step = g.met.P.Pages.reads_on old mid new before c.front_below.ensures.reads.step;
    }

pub returns-clause-sight : goal.returns-clause-sight
returns-clause-sight g m c honest =
    let one : c.args.levels ≡ suc (c.args.levels - 1) = omega arith in
    let h2 = g.met.P.Pages.writes_honestly c.look_below.new.pages c.front_below.new.pages (g.met.P.Pages.reads_writes c.look_below.new.pages c.front_below.new.pages c.front_below.ensures.reads.step) honest in
    let h1 = g.met.P.Pages.writes_honestly c.fork_at.new.pages c.look_below.new.pages (g.met.P.Pages.reads_writes c.fork_at.new.pages c.look_below.new.pages c.look_below.ensures.reads.step) h2 in
    let live = g.met.P.Pages.reads_live c.args.pages.now c.fork_at.new.pages c.fork_at.ensures.reads.step h1 in
    let found = first_with c.front_below.new.entry c.in_ok-front.front in
    sights_behind c.args.shape ((g.P.Pages.shown.state c.args.pages.now).live) c.args.levels (c.args.levels - 1) c.args.page c.args.from.now c.args.to.now one
    ((g.P.Pages.shown.state c.fork_at.new.pages).live) live c.in_ok-fork.fork (c.in_ok-fork.ensures.found h1)
    ((g.P.Pages.shown.state c.look_below.new.pages).live) (filled c.look_below.new.entry c.in-Unended.here) found found
    (g.met.P.Pages.reads_live c.fork_at.new.pages c.look_below.new.pages c.look_below.ensures.reads.step h2 ∙ live) c.if-fork-2.false
    (rw c.in-Unended.is at (c.in_ok-found.ensures.sight h2)) (c.in_ok-front.ensures.found honest)
    (λ others begin. subst (λ (b : Bool). Begin (only (filled c.look_below.new.entry b) ++ others) found) (sym c.if-here.false) begin)

pub returns-clause-reads : goal.returns-clause-reads
returns-clause-reads g m c =
    record { cause = tt; asked = grind (arith, common_steps); step = g.met.P.Pages.reads_on c.args.pages.now c.look_below.new.pages c.front_below.new.pages (g.met.P.Pages.reads_on c.args.pages.now c.fork_at.new.pages c.look_below.new.pages c.fork_at.ensures.reads.step c.look_below.ensures.reads.step) c.front_below.ensures.reads.step }

use Rattle.std.proofs.Common.{◌≡◌, ◌-◌, suc, arith}
use Rattle.tree_search.proofs.AnswerLemmas.{fails}
use Rattle.bplus_tree.proofs.RemoveLemmas.{removes_at, descent_fails, child_at, below_it, child_absent, child_taken, child_rebalanced}
use Rattle.bplus_tree.proofs.remove.+remove_below.Goals as goal

pub returns-then-levels-eq0-clause-removed : goal.returns-then-levels-eq0-clause-removed
returns-then-levels-eq0-clause-removed g t c honest sound =
    removes_at _ c.args.key.now (c.remove_from_leaf.ensures.removed honest sound) c.if-levels-eq0.true

pub returns-in_err-down-clause-removed : goal.returns-in_err-down-clause-removed
returns-in_err-down-clause-removed g t c honest sound =
    removes_at {m = suc (c.args.levels - 1)} _ c.args.key.now
    (λ node whole. descent_fails node whole (c.in_err-down.ensures.found honest) c.from_residual.ensures.1) (omega arith)

pub returns-in_err-remove_below-clause-removed : goal.returns-in_err-remove_below-clause-removed
returns-in_err-remove_below-clause-removed g t c honest sound =
    let reads = c.descend.ensures.reads.step in
    let h = g.met.P.Pages.writes_honestly _ _ c.remove_below.ensures.writes.step honest in
    let removes = rw (g.met.P.Pages.reads_live _ _ reads h) at
    (c.in_err-remove_below.ensures.removed honest (rw (g.met.P.Pages.reads_sound _ _ reads h) sound)) in
    removes_at _ c.args.key.now (λ node whole.
    let child = child_at node whole (c.in_ok-down.ensures.found h) in
    fails _ _ _ c.from_residual-in_err-remove_below.ensures.1 (removes (below_it child) child.whole).no_damage) (omega arith)

pub returns-in-Absent-clause-removed : goal.returns-in-Absent-clause-removed
returns-in-Absent-clause-removed g t c honest sound =
    let reads = c.descend.ensures.reads.step in
    let h = g.met.P.Pages.writes_honestly _ _ c.remove_below.ensures.writes.step honest in
    let none = rw c.in-Absent.is at (c.in_ok-remove_below.ensures.removed honest (rw (g.met.P.Pages.reads_sound _ _ reads h) sound)) in
    removes_at _ c.args.key.now
    (child_absent (c.in_ok-down.ensures.found h) _ (rw (g.met.P.Pages.reads_live _ _ reads h) at none)) (omega arith)

pub returns-else-short-clause-removed : goal.returns-else-short-clause-removed
returns-else-short-clause-removed g t c honest sound =
    let reads = c.descend.ensures.reads.step in
    let h = g.met.P.Pages.writes_honestly _ _ c.remove_below.ensures.writes.step honest in
    let taken = rw c.in-Taken.is at (c.in_ok-remove_below.ensures.removed honest (rw (g.met.P.Pages.reads_sound _ _ reads h) sound)) in
    removes_at _ c.args.key.now
    (child_taken (c.in_ok-down.ensures.found h) _ c.in-Taken.entry c.in-Taken.short _ c.if-short.false c.is_few-short.ensures
    (rw (g.met.P.Pages.reads_live _ _ reads h) at taken)) (omega arith)

pub returns-in_ok-short-in-Taken-clause-removed : goal.returns-in_ok-short-in-Taken-clause-removed
returns-in_ok-short-in-Taken-clause-removed g t c honest sound =
    let reads = c.descend.ensures.reads.step in
    let late = (g.P.Pages.shown.state c.rebalance.new.pages).live in
    let h2 = g.met.P.Pages.writes_honestly _ _ c.rebalance.ensures.writes.step honest in
    let h = g.met.P.Pages.writes_honestly _ _ c.remove_below.ensures.writes.step h2 in
    let taken = rw c.in-Taken.is at (c.in_ok-remove_below.ensures.removed h2 (rw (g.met.P.Pages.reads_sound _ _ reads h) sound)) in
    let below = rw (g.met.P.Pages.reads_live _ _ reads h) at taken in
    let rebalanced = child_rebalanced (c.in_ok-down.ensures.found h) _ late c.in-Taken.entry _ c.if-short.true below in
    removes_at _ c.args.key.now
    (λ node whole. record { answer = (rebalanced (c.in_ok-short-in-Taken.ensures.rebalanced honest) node whole).answer; no_damage = tt })
    (omega arith)

pub returns-in_err-short-in-Taken-clause-removed : goal.returns-in_err-short-in-Taken-clause-removed
returns-in_err-short-in-Taken-clause-removed g t c honest sound =
    let reads = c.descend.ensures.reads.step in
    let late = (g.P.Pages.shown.state c.rebalance.new.pages).live in
    let h2 = g.met.P.Pages.writes_honestly _ _ c.rebalance.ensures.writes.step honest in
    let h = g.met.P.Pages.writes_honestly _ _ c.remove_below.ensures.writes.step h2 in
    let taken = rw c.in-Taken.is at (c.in_ok-remove_below.ensures.removed h2 (rw (g.met.P.Pages.reads_sound _ _ reads h) sound)) in
    let below = rw (g.met.P.Pages.reads_live _ _ reads h) at taken in
    let rebalanced = child_rebalanced (c.in_ok-down.ensures.found h) _ late c.in-Taken.entry _ c.if-short.true below in
    removes_at _ c.args.key.now (λ node whole.
    fails _ _ _ c.from_residual-in_err-short-in-Taken.ensures.1
    (rebalanced (c.in_err-short-in-Taken.ensures.rebalanced honest) node whole).no_damage) (omega arith)

pub rebalance-requires : goal.rebalance-requires
rebalance-requires g m c =
    let goes = g.met.P.Pages.reads_writes _ _ c.descend.ensures.reads.step in
    let on = c.remove_below.ensures.writes.step in
    record {
      ready = g.met.P.Pages.writes_ready c.descend.new.pages c.remove_below.new.pages on (g.met.P.Pages.writes_ready c.args.pages.now c.descend.new.pages goes c.requires.ready);
      changing = g.met.P.Pages.writes_changing c.descend.new.pages c.remove_below.new.pages on (g.met.P.Pages.writes_changing c.args.pages.now c.descend.new.pages goes c.requires.changing);
    }

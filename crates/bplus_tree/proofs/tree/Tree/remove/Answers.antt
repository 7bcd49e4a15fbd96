use Rattle.std.proofs.Common.{◌≡◌}
use Rattle.tree_search.proofs.AnswerLemmas.{fails}
use Rattle.bplus_tree.proofs.RootLemmas.{at_root}
use Rattle.bplus_tree.proofs.TreeLemmas.{removed_one}
use Rattle.bplus_tree.proofs.tree.Tree.remove.Goals as goal

pub returns-in_err-take_below-clause-removed : goal.returns-in_err-take_below-clause-removed
returns-in_err-take_below-clause-removed g c honest sound entries own stands =
    fails _ _ _ c.from_residual.ensures.1
    (c.in_err-take_below.ensures.leaves honest sound (at_root c.args.self.now stands.value) stands.whole).no_damage

pub returns-then-branch-clause-removed : goal.returns-then-branch-clause-removed
returns-then-branch-clause-removed g c honest sound entries own stands =
    let a = (c.in_ok-take_below.ensures.leaves honest sound (at_root c.args.self.now stands.value) stands.whole).answer in
    let taken = rw c.if-branch.true at a.0 in
    record { answer = (removed_one c.args.key.now stands c.take_below.new.to c.saturating_sub-self.ensures taken, a.1); no_damage = tt }

pub returns-clause-removed : goal.returns-clause-removed
returns-clause-removed g c honest sound entries own stands =
    let before = (g.P.Pages.shown.state c.args.pages.now).live in
    let mid = g.P.Pages.shown.state c.take_below.new.pages in
    let h1 = g.met.P.Pages.writes_honestly _ _ c.remove_or_rebalance.ensures.writes.step honest in
    let a = (c.in_ok-take_below.ensures.leaves h1 sound (at_root c.args.self.now stands.value) stands.whole).answer in
    let same : mid.live ≡ before = rw c.if-branch.false at a.0 in
    (rw same at (c.remove_or_rebalance.ensures.removes.removed honest a.1)) entries own stands

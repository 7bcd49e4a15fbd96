use Rattle.std.proofs.Common.{◌≡◌, None, refl, arith}
use Rattle.tree_search.proofs.AnswerLemmas.{fails}
use Rattle.bplus_tree.proofs.GrowRootLemmas.{grows_none}
use Rattle.bplus_tree.proofs.RootLemmas.{at_root, inserted_one}
use Rattle.bplus_tree.proofs.DepthLemmas.{never_deep, never_full}
use Rattle.bplus_tree.proofs.tree.Tree.insert.Goals as goal
use Rattle.bplus_tree.proofs.tree.Tree.insert.Goals.{then-self-ge-GREATEST_LEVELS-via-then-self-ge-GREATEST_LEVELS, then-self-ge-GREATEST_LEVELS-via-else-self-ge-GREATEST_LEVELS+then-self-room}

pub returns-in_err-put_below-clause-inserted : goal.returns-in_err-put_below-clause-inserted
returns-in_err-put_below-clause-inserted g c honest sound entries own stands =
    fails _ _ _ c.from_residual.ensures.1
    (c.in_err-put_below.ensures.leaves honest sound (at_root c.args.self.now stands.value) stands.whole (tt, tt)).no_damage

pub returns-then-branch-clause-inserted : goal.returns-then-branch-clause-inserted
returns-then-branch-clause-inserted g c honest sound entries own stands =
    let old = c.args.self.now in
    let a = (c.in_ok-put_below.ensures.leaves honest sound (at_root old stands.value) stands.whole (tt, tt)).answer in
    record {
      answer = inserted_one c.args.entry.now stands {base = record { root = old.root; levels = old.levels }}
          (g.P.Pages.shown.state c.put_below.new.pages).live None refl (rw c.if-branch.true at a.0) (grows_none a.1);
      no_damage = tt;
    }

pub returns-clause-inserted : goal.returns-clause-inserted
returns-clause-inserted g c honest sound entries own stands =
    let old = c.args.self.now in
    let before = (g.P.Pages.shown.state c.args.pages.now).live in
    let mid = g.P.Pages.shown.state c.put_below.new.pages in
    let h1 = g.met.P.Pages.writes_honestly _ _ c.insert_or_split.ensures.writes.step honest in
    let a = (c.in_ok-put_below.ensures.leaves h1 sound (at_root old stands.value) stands.whole (tt, tt)).answer in
    let same : mid.live ≡ before = rw c.if-branch.false at a.0 in
    (rw same at (c.insert_or_split.ensures.inserts.inserted honest a.1)) entries own stands

pub returns-then-self-ge-GREATEST_LEVELS-clause-inserted : goal.returns-then-self-ge-GREATEST_LEVELS-clause-inserted
returns-then-self-ge-GREATEST_LEVELS-clause-inserted g c honest sound entries own stands =
    let tree = c.args.self.now in
    let live = (g.P.Pages.shown.state c.args.pages.now).live in
    let low = c.count.ensures.low in
    let never : ⊥ = elim c.then-self-ge-GREATEST_LEVELS.branch [
      | then-self-ge-GREATEST_LEVELS-via-then-self-ge-GREATEST_LEVELS w ↦ never_deep tree live entries own c.count.result stands low (omega (arith, c.count.type_inv)) (omega (arith, w.if-self-ge-GREATEST_LEVELS))
      | then-self-ge-GREATEST_LEVELS-via-else-self-ge-GREATEST_LEVELS+then-self-room w ↦ never_full tree live entries own c.count.result stands low (omega (arith, w.if-self-room, c.from-room.ensures))
    ] in
    absurd never

use Rattle.std.proofs.Common.{rules}
use Rattle.tree_search.proofs.AnswerLemmas.{fails}
use Rattle.bplus_tree.proofs.RootLemmas.{at_root}
use Rattle.bplus_tree.proofs.TreeLemmas.{removed_absent, removed_some}
use Rattle.bplus_tree.proofs.tree.Tree.remove_or_rebalance.Goals as goal

pub returns-in_err-remove_below-clause-removes : goal.returns-in_err-remove_below-clause-removes
returns-in_err-remove_below-clause-removes g c = record {
  removed = λ honest sound entries own stands.
      fails _ _ _ c.from_residual.ensures.1
      (c.in_err-remove_below.ensures.removed honest sound (at_root c.args.self.now stands.value) stands.whole).no_damage;
  shape = search rules;
  changes = search rules;
}

pub returns-in-Absent-clause-removes : goal.returns-in-Absent-clause-removes
returns-in-Absent-clause-removes g c = record {
  removed = λ honest sound entries own stands.
      let a = (c.in_ok-remove_below.ensures.removed honest sound (at_root c.args.self.now stands.value) stands.whole).answer in
      record { answer = (removed_absent c.args.key.now stands (rw c.in-Absent.is at a.0), a.1); no_damage = tt };
  shape = search rules;
  changes = search rules;
}

pub returns-in_err-base-in-Taken-clause-removes : goal.returns-in_err-base-in-Taken-clause-removes
returns-in_err-base-in-Taken-clause-removes g c = record {
  removed = λ honest sound entries own stands.
      let h1 = g.met.P.Pages.writes_honestly _ _ c.collapse.ensures.alters.writes.step honest in
      let a = (c.in_ok-remove_below.ensures.removed h1 sound (at_root c.args.self.now stands.value) stands.whole).answer in
      let b = (rw c.in-Taken.is at a.0).1.becomes in
      fails _ _ _ c.from_residual-in_err-base-in-Taken.ensures.1
      (c.in_err-base-in-Taken.ensures.alters.leaves honest a.1 b.tree b.stands b.changes.apart b.filled).no_damage;
  shape = search rules;
  changes = search rules;
}

pub returns-in_ok-base-in-Taken-clause-removes : goal.returns-in_ok-base-in-Taken-clause-removes
returns-in_ok-base-in-Taken-clause-removes g c = record {
  removed = λ honest sound entries own stands.
      let h1 = g.met.P.Pages.writes_honestly _ _ c.collapse.ensures.alters.writes.step honest in
      let a = (c.in_ok-remove_below.ensures.removed h1 sound (at_root c.args.self.now stands.value) stands.whole).answer in
      record {
        answer = removed_some c.args.key.now stands c.in-Taken.entry _ c.saturating_sub.ensures (rw c.in-Taken.is at a.0)
            (c.in_ok-base-in-Taken.ensures.alters.leaves honest a.1);
        no_damage = tt;
      };
  shape = search rules;
  changes = search rules;
}

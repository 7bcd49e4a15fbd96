use Rattle.std.proofs.Common.{refl, rules}
use Rattle.tree_search.proofs.AnswerLemmas.{fails}
use Rattle.bplus_tree.proofs.RootLemmas.{at_root, inserted_none, inserted_one}
use Rattle.bplus_tree.proofs.tree.Tree.insert_or_split.Goals as goal

pub returns-in_err-found-clause-inserts : goal.returns-in_err-found-clause-inserts
returns-in_err-found-clause-inserts g c = record {
  inserted = λ honest sound entries own stands.
      fails _ _ _ c.from_residual.ensures.1
      (c.in_err-found.ensures.inserted honest sound (at_root c.args.self.now stands.value) stands.whole (tt, tt)).no_damage;
  shape = search rules;
  changes = search rules;
}

pub returns-in-Present-clause-inserts : goal.returns-in-Present-clause-inserts
returns-in-Present-clause-inserts g c = record {
  inserted = λ honest sound entries own stands.
      let a = (c.in_ok-found.ensures.inserted honest sound (at_root c.args.self.now stands.value) stands.whole (tt, tt)).answer in
      record { answer = (inserted_none c.args.entry.now stands (rw c.in-Present.is at a.0), a.1); no_damage = tt };
  shape = search rules;
  changes = search rules;
}

pub returns-in_err-base-in-Added-clause-inserts : goal.returns-in_err-base-in-Added-clause-inserts
returns-in_err-base-in-Added-clause-inserts g c = record {
  inserted = λ honest sound entries own stands.
      let h1 = g.met.P.Pages.writes_honestly _ _ c.grow_root.ensures.alters.writes.step honest in
      let a = (c.in_ok-found.ensures.inserted h1 sound (at_root c.args.self.now stands.value) stands.whole (tt, tt)).answer in
      fails _ _ _ c.from_residual-in_err-base-in-Added.ensures.1
      (c.in_err-base-in-Added.ensures.alters.leaves honest a.1 (g.P.Pages.shown.state c.args.pages.now).live stands.value _
      stands.whole.rooted (rw c.in-Added.is at a.0).1).no_damage;
  shape = search rules;
  changes = search rules;
}

pub returns-in_ok-base-in-Added-clause-inserts : goal.returns-in_ok-base-in-Added-clause-inserts
returns-in_ok-base-in-Added-clause-inserts g c = record {
  inserted = λ honest sound entries own stands.
      let h1 = g.met.P.Pages.writes_honestly _ _ c.grow_root.ensures.alters.writes.step honest in
      let a = (c.in_ok-found.ensures.inserted h1 sound (at_root c.args.self.now stands.value) stands.whole (tt, tt)).answer in
      record {
        answer = inserted_one c.args.entry.now stands (g.P.Pages.shown.state c.insert_below.new.pages).live c.in-Added.up refl
            (rw c.in-Added.is at a.0) (c.in_ok-base-in-Added.ensures.alters.leaves honest a.1);
        no_damage = tt;
      };
  shape = search rules;
  changes = search rules;
}

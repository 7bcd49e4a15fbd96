use Rattle.std.proofs.Common.{◌+◌, Bool, Ok, refl, subst, rules}
use Rattle.std.proofs.lemmas.Result.{err_from_is_err_and}
use Rattle.tree_search.specs.Spot.{CopiesEntry}
use Rattle.tree_search.specs.declared.spot.Spot.{Spot}
use Rattle.bplus_tree.proofs.CursorLemmas.{stepped, has_next, no_damage, moved}
use Rattle.bplus_tree.proofs.cursor.Cursor.step.Goals as goal

pub returns-in_err-copy_entry : goal.returns-in_err-copy_entry
returns-in_err-copy_entry g c = record {
  moved = λ honest entries own stands belongs.
      let cursor = c.args.self.now in
      let p = err_from_is_err_and c.from_residual.result c.from_residual.ensures.1 in
      rw (p.1, p.2) (record {
        answer = tt;
        no_damage =
            (no_damage cursor c.args.tree.now (g.P.Pages.shown.state c.args.pages.now).live entries own stands belongs c.requires.near (cursor.spot.place + 1) refl cursor.spot c.copy_entry.new.to.items
            c.in_err-copy_entry.field-0.0 (c.in_err-copy_entry.ensures.found honest));
      });
  key = search rules;
  near = search rules;
  reads = search rules;
  err = search rules;
}

pub returns-then-not-branch : goal.returns-then-not-branch
returns-then-not-branch g c = record {
  moved = λ honest entries own stands belongs.
      let cursor = c.args.self.now in
      let before = (g.P.Pages.shown.state c.args.pages.now).live in
      let at = subst (λ (b : Bool). CopiesEntry c.args.tree.now.shape before cursor.spot.leaf (cursor.spot.place + 1) c.copy_entry.new.to.items (Ok b)) c.if-not-branch.true (c.in_ok-copy_entry.ensures.found honest) in
      absurd (has_next cursor c.args.tree.now before entries own stands belongs c.requires.near (cursor.spot.place + 1) refl cursor.spot c.copy_entry.new.to.items at);
  key = search rules;
  near = search rules;
  reads = search rules;
  err = search rules;
}

pub returns : goal.returns
returns g c = record {
  moved = λ honest entries own stands belongs.
      let cursor = c.args.self.now in
      let tree = c.args.tree.now in
      let before = (g.P.Pages.shown.state c.args.pages.now).live in
      let place = cursor.spot.place + 1 in
      let spot : Spot = record { leaf = cursor.spot.leaf; place = place; count = cursor.spot.count } in
      let at = subst (λ (b : Bool). CopiesEntry tree.shape before cursor.spot.leaf place c.copy_entry.new.to.items (Ok b)) c.if-not-branch.false (c.in_ok-copy_entry.ensures.found honest) in
      let behind = stepped cursor tree before entries own stands belongs c.requires.near place refl spot c.copy_entry.new.to refl refl refl at in
      record { answer = moved cursor _ tree before entries own spot c.copy_entry.new.to behind c.take_key.ensures c.requires.near.unchanged refl; no_damage = tt };
  key = search rules;
  near = search rules;
  reads = search rules;
  err = search rules;
}

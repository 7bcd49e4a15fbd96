use Rattle.std.proofs.Common.{Bool, IsTrue, subst, sym}
use Rattle.bplus_tree.proofs.TreeLemmas.{new_tree, in_use}
use Rattle.bplus_tree.proofs.tree.Tree.empty.Goals as goal

pub returns-clause-made : goal.returns-clause-made
returns-clause-made g c honest sound =
    let h1 = g.met.P.Pages.writes_honestly c.take.new.self c.write_empty_leaf.new.pages c.write_empty_leaf.ensures.writes.step honest in
    let taken = (c.in_ok-root.ensures.taken h1 sound).1 in
    let alive = in_use (g.P.Pages.shown.state c.take.new.self).live c.in_ok-root.root taken.0 taken.1.page in
    record {
      answer = (
        new_tree c.args.shape ((g.P.Pages.shown.state c.args.pages.now).live) ((g.P.Pages.shown.state c.take.new.self).live) ((g.P.Pages.shown.state c.write_empty_leaf.new.pages).live) c.in_ok-root.root taken.0 _ taken.1 (c.in_ok-write_empty_leaf.ensures.started honest alive).answer,
        subst (λ (b : Bool). IsTrue b) (sym (c.write_empty_leaf.ensures.sound honest alive)) (c.take.ensures.sound h1 sound),
      );
      no_damage = tt;
    }

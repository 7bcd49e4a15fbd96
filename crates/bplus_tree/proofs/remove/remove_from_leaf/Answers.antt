use Rattle.tree_search.proofs.AnswerLemmas.{fails}
use Rattle.bplus_tree.proofs.RemoveLemmas.{leaf_removes}
use Rattle.bplus_tree.proofs.remove.remove_from_leaf.Goals as goal

pub returns-in_err-short-in-Some-clause-removed : goal.returns-in_err-short-in-Some-clause-removed
returns-in_err-short-in-Some-clause-removed g c honest sound leaf whole =
    let reads = c.seek.ensures.reads.step in
    let h1 = g.met.P.Pages.writes_honestly _ _ c.take_out.ensures.writes.step honest in
    let stands = whole.stands in
    let is = (c.in_ok-place.ensures.found h1 leaf.tree.1 (rw stands.root at stands.holds) stands.ordered.0).answer in
    let out = c.in_err-short-in-Some.ensures.taken honest (rw (g.met.P.Pages.reads_sound _ _ reads h1) sound) in
    fails _ _ _ c.from_residual-in_err-short-in-Some.ensures.1
    (leaf_removes leaf c.args.key.now c.in_ok-place.field-0 c.in-Some.entry stands is c.in-Some.is
    (rw (g.met.P.Pages.reads_live _ _ reads h1) at out)).no_damage

pub returns-in_ok-short-in-Some-clause-removed : goal.returns-in_ok-short-in-Some-clause-removed
returns-in_ok-short-in-Some-clause-removed g c honest sound leaf whole =
    let reads = c.seek.ensures.reads.step in
    let h1 = g.met.P.Pages.writes_honestly _ _ c.take_out.ensures.writes.step honest in
    let stands = whole.stands in
    let is = (c.in_ok-place.ensures.found h1 leaf.tree.1 (rw stands.root at stands.holds) stands.ordered.0).answer in
    let out = c.in_ok-short-in-Some.ensures.taken honest (rw (g.met.P.Pages.reads_sound _ _ reads h1) sound) in
    record {
      answer = (leaf_removes leaf c.args.key.now c.in_ok-place.field-0 c.in-Some.entry stands is c.in-Some.is
          (rw (g.met.P.Pages.reads_live _ _ reads h1) at out)).answer;
      no_damage = tt;
    }

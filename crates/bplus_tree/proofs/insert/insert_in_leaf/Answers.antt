use Rattle.bplus_tree.proofs.InsertLemmas.{leaf_grows}
use Rattle.bplus_tree.proofs.insert.insert_in_leaf.Goals as goal

pub returns-in_ok-up-in-None-clause-inserted : goal.returns-in_ok-up-in-None-clause-inserted
returns-in_ok-up-in-None-clause-inserted g c honest sound leaf whole within =
    let reads = c.seek.ensures.reads.step in
    let h = g.met.P.Pages.writes_honestly _ _ c.add_to_leaf.ensures.alters.writes.step honest in
    let stands = whole.stands in
    let is = (c.in_ok-place.ensures.found h leaf.tree.1 (rw stands.root at stands.holds) stands.ordered.0).answer in
    let adds = c.in_ok-up-in-None.ensures.alters.leaves honest (rw (g.met.P.Pages.reads_sound _ _ reads h) sound) in
    record {
      answer = (leaf_grows c.args.entry.now leaf c.in_ok-place.field-0 stands within is c.in-None.is
          (rw (g.met.P.Pages.reads_live _ _ reads h) at adds)).answer;
      no_damage = tt;
    }

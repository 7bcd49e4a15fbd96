use Rattle.tree_building.proofs.RootLemmas.{answer_map}
use Rattle.tree_building.proofs.BuildLemmas.{written_more}
use Rattle.tree_building.proofs.ending.write_one.Goals as goal

pub returns-clause-writes : goal.returns-clause-writes
returns-clause-writes g c honest sound =
    let adds = c.add_leaf.ensures.adds honest sound in
    record {
      writes = λ entries own w. answer_map adds.added (λ done added.
          written_more c.args.shape (g.P.Pages.shown.state c.args.pages.now).live (g.P.Pages.shown.state c.add_leaf.new.pages).live c.args.leaves.now.items c.add_leaf.new.before.items entries own
          c.args.leaf.now w c.requires.leaf.leaf c.requires.leaf.large added);
      kept = adds.kept;
      sound = adds.sound;
    }

use Rattle.tree_building.proofs.BuildLemmas.{stands_alone}
use Rattle.tree_building.proofs.ending.stand_alone.Goals as goal

pub returns-clause-stands : goal.returns-clause-stands
returns-clause-stands g c honest sound =
    let put = c.in_ok-root.ensures.put honest sound in
    let stored = c.stored.ensures in
    record {
      stands = λ entries own w rises counted full. record {
        answer = stands_alone c.args.shape (g.P.Pages.shown.state c.args.pages.now).live (g.P.Pages.shown.state c.put_page.new.pages).live entries own c.args.leaf.now c.in_ok-root.root
            c.args.count c.stored.result w put.put.answer c.requires.leaf rises counted stored.shape stored.root stored.levels stored.count
            (g.P.Pages.shown.state c.args.pages.now).available (g.P.Pages.shown.state c.put_page.new.pages).available c.in_ok-root.ensures.one;
        no_damage = tt;
      };
      kept = put.kept;
      sound = put.sound;
    }

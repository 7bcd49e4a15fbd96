use Rattle.std.proofs.Common.{refl, sym, subst}
use Rattle.pages.specs.Owners.{AreApart}
use Rattle.tree_building.proofs.BuildLemmas.{stands_over}
use Rattle.tree_building.proofs.ending.stand_over.Goals as goal

pub returns-clause-stands : goal.returns-clause-stands
returns-clause-stands g c honest sound =
    let roots = c.in_ok-base.ensures.roots honest sound in
    let stored = c.stored.ensures in
    record {
      stands = λ entries own w rises counted full. record {
        answer = stands_over c.args.shape (g.P.Pages.shown.state c.args.pages.now).live (g.P.Pages.shown.state c.add_root.new.pages).live c.args.leaves.now entries own c.in_ok-base.base
            c.stored.result c.args.count (g.P.Pages.shown.state c.args.pages.now).available (g.P.Pages.shown.state c.add_root.new.pages).available w (roots.rooted 0 w.leaves refl w.level (subst AreApart (sym w.own_are) w.apart)).answer rises counted full stored.shape stored.root stored.levels stored.count;
        no_damage = tt;
      };
      kept = roots.kept;
      sound = roots.sound;
    }

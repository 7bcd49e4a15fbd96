use Rattle.std.proofs.Common.{refl, arith}
use Rattle.tree_search.proofs.AnswerLemmas.{fails}
use Rattle.tree_building.proofs.BuildLemmas.{entry_pushed}
use Rattle.tree_building.proofs.builder.TreeBuilder.push.Goals as goal

pub returns-in_err-make_room-clause-pushes : goal.returns-in_err-make_room-clause-pushes
returns-in_err-make_room-clause-pushes g c honest sound =
    let makes = c.in_err-make_room.ensures.makes honest sound in
    record {
      pushed = λ entries own b. fails _ _ _ c.from_residual.ensures.1 (makes.made entries own b).no_damage;
      kept = makes.kept;
      sound = makes.sound;
    }

pub returns-clause-pushes : goal.returns-clause-pushes
returns-clause-pushes g c honest sound =
    let makes = c.in_ok-make_room.ensures.makes honest sound in
    let same = c.make_room.ensures.same in
    record {
      pushed = λ entries own b. record {
        answer = entry_pushed (g.P.Pages.shown.state c.args.pages.now).live (g.P.Pages.shown.state c.make_room.new.pages).live c.make_room.new.self _ c.args.entry.now own entries
            (makes.made entries own b).answer c.push_pending.ensures refl refl (omega (arith, c.in-Some.ensures, same.1));
        no_damage = tt;
      };
      kept = makes.kept;
      sound = makes.sound;
    }

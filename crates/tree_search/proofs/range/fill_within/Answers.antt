use Rattle.std.proofs.Common.{◌++◌, Bool, Option, sym, subst, arith, rules}
use Rattle.std.proofs.lemmas.Grind.{common_steps}
use Rattle.tree_search.specs.Search.{filled}
use Rattle.tree_search.specs.Range.{Begin, only, first_with}
use Rattle.tree_search.proofs.RangeRowLemmas.{whole_settled, whole_open, begins_alone}
use Rattle.tree_search.proofs.range.fill_within.Goals as goal

pub returns-in-Answered : goal.returns-in-Answered
returns-in-Answered g c =
    record {
      found = λ honest t tree filled.
          whole_settled c.args.shape (g.P.Pages.shown.state c.args.pages.now).live c.args.levels c.args.page c.args.from.now c.args.to.now t tree filled
          (first_with c.look_below.new.entry c.in-Answered.found) (rw c.in-Answered.is at (c.in_ok-found.ensures.sight honest));
      reads = first_of (search rules, grind (arith, common_steps));
    }

pub returns-in-Unended : goal.returns-in-Unended
returns-in-Unended g c =
    record {
      found = λ honest t tree full.
          let entry = c.look_below.new.entry in
          whole_open c.args.shape (g.P.Pages.shown.state c.args.pages.now).live c.args.levels c.args.page c.args.from.now c.args.to.now t tree full
          (filled entry c.in-Unended.here) (first_with entry c.alone.result) (rw c.in-Unended.is at (c.in_ok-found.ensures.sight honest))
          (λ others none. subst (λ (o : Option Bool). Begin (only (filled entry c.in-Unended.here) ++ others) (first_with entry o)) (sym c.alone.ensures) (begins_alone entry c.in-Unended.here others none));
      reads = first_of (search rules, grind (arith, common_steps));
    }

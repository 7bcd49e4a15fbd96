use Rattle.std.proofs.Common.{◌∙◌, arith, rules}
use Rattle.std.proofs.lemmas.Grind.{common_steps}
use Rattle.tree_search.specs.Range.{first_with}
use Rattle.tree_search.proofs.RangeRowLemmas.{same_some, has_front_fails}
use Rattle.tree_search.proofs.range.has_front.Goals as goal

pub returns-in_err-front : goal.returns-in_err-front
returns-in_err-front g c =
    record {
      found = λ honest.
          has_front_fails c.args.shape (g.P.Pages.shown.state c.args.pages.now).live c.args.levels c.args.page c.args.to.now _ c.from_residual.result (c.in_err-front.ensures.found honest) c.from_residual.ensures.1;
      reads = first_of (search rules, grind (arith, common_steps));
    }

pub returns : goal.returns
returns g c =
    record {
      found = λ honest.
          let entry = c.front_below.new.entry in
          (first_with entry c.in_ok-front.front, (c.in_ok-front.ensures.found honest, c.is_some.ensures ∙ same_some entry c.in_ok-front.front));
      reads = first_of (search rules, grind (arith, common_steps));
    }

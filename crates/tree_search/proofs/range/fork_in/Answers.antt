use Rattle.std.proofs.Common.{ap, sym, ◌∙◌, arith}
use Rattle.std.proofs.lemmas.Bool.Decides.{nat_tests}
use Rattle.std.proofs.lemmas.Grind.{common_steps}
use Rattle.tree_node.specs.Order.{less}
use Rattle.tree_search.proofs.range.fork_in.Goals as goal

pub returns-then-step : goal.returns-then-step
returns-then-step c =
    let count = c.step_in-step.ensures.count in
    record {
      step = c.step_in-step.ensures;
      inside = λ h. omega arith;
      above = λ h. ap (less c.args.to.now) (sym c.separator.ensures.value) ∙ sym c.is_past-past.ensures ∙ h;
    }

pub returns-else-step : goal.returns-else-step
returns-else-step c =
    record {
      step = c.step_in-step.ensures;
      inside = λ h. absurd (grind (arith, common_steps, nat_tests));
      above = λ h. absurd (grind (arith, common_steps, nat_tests));
    }

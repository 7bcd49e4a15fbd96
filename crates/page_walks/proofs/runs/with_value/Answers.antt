use Rattle.std.proofs.Common.{◌∙◌, ap, Some}
use Rattle.page_walks.proofs.RunLemmas.{run_same, run_other, run_short, not_saturated}
use Rattle.page_walks.proofs.runs.with_value.Goals.{then-is_last, else-is_last}
use Rattle.page_walks.proofs.runs.with_value.Goals as goal

pub returns-clause-taken : goal.returns-clause-taken
returns-clause-taken c values so_far together few =
    elim c.if-is_last.branch [
      | then-is_last w ↦ run_same values c.args.value.now c.args.run (record { last = Some c.in_ok-kept.field-0; length = c.if-is_last.length; longest = c.max-longest.result }) so_far
          (c.is_last.ensures.0 w.if-is_last.true)
          (w.length-is ∙ w.saturating_add-length.ensures ∙ not_saturated c.args.run.length (run_short values c.args.value.now c.args.run so_far (c.is_last.ensures.0 w.if-is_last.true) few))
          (ap Some c.in_ok-kept.ensures.kept) c.max-longest.ensures
      | else-is_last w ↦ run_other values c.args.value.now c.args.run (record { last = Some c.in_ok-kept.field-0; length = c.if-is_last.length; longest = c.max-longest.result }) so_far together
          (λ same. let yes = c.is_last.ensures.1 same in let no = w.if-is_last.false in cc) w.length-is (ap Some c.in_ok-kept.ensures.kept) c.max-longest.ensures
    ]

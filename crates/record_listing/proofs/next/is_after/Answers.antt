use Rattle.std.proofs.Common.{◌≡◌, rules, arith, sym, ◌∙◌}
use Rattle.std.specs.Ordering.{is_gt}
use Rattle.io_state.specs.Rank.{rank_cmp}
use Rattle.record_listing.proofs.RisingLemmas.{rank_rises}
use Rattle.record_listing.proofs.next.is_after.Goals as goal

pub returns-clause-fewer : goal.returns-clause-fewer
returns-clause-fewer c =
    λ up.
    let same : c.is_gt.result ≡ is_gt (rank_cmp c.args.value.now c.args.stamp c.args.last.now c.args.last_stamp) = search rules in
    rank_rises c.args.value.now c.args.last.now c.args.stamp c.args.last_stamp c.requires.fits (λ i. search rules) (λ i. search rules)
    (omega (arith, c.ranges.stamp.fits)) (omega (arith, c.ranges.last_stamp.fits)) (sym same ∙ up)

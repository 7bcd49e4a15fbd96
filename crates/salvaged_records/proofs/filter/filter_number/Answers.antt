use Rattle.std.proofs.Common.{ℕ, ◌+◌, drop, ap, ◌∙◌}
use Rattle.salvaged_records.specs.Filter.{number_from}
use Rattle.salvaged_records.proofs.FilterLemmas.{byte_more}
use Rattle.salvaged_records.proofs.filter.filter_number.Goals as goal

pub loop-byte-preserved : goal.loop-byte-preserved
loop-byte-preserved c =
    let i = c.loop-byte.byte-index in
    ap (λ (n : ℕ). number_from n (drop (i + 1) c.args.value.now)) c.number_with-number.ensures
    ∙ byte_more c.loop-byte.number c.args.value.now i _ c.loop-byte-test.true ∙ c.loop-byte.invariant

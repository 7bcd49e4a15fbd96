use Rattle.std.proofs.Common.{◌≡◌, sym, string_bytes, ◌∙◌}
use Rattle.deck_listing.proofs.FaultLemmas.{same_fault}
use Rattle.deck_listing.proofs.faults.first_of.Goals as goal

pub returns-then-eq-clause-says : goal.returns-then-eq-clause-says
returns-then-eq-clause-says c =
    let same : c.args.fault ≡ c.from.result = same_fault c.from.result c.args.fault (sym c.if-eq.ensures) in
    (c.in-Err.refusal.refusal, string_bytes c.in_ok-message.message.why, same ∙ c.from.ensures, c.in_ok-message.ensures, c.diagnosis_of.ensures.why)

use Rattle.std.proofs.Common.{ℕ, List, sym, subst, ◌∙◌}
use Rattle.file_checker.specs.Sound.{IsRight}
use Rattle.file_checker.specs.declared.verdict.Verdict.TheVariants.{Unsound}
use Rattle.pages.specs.declared.fault_place.FaultPlace.{FaultPlace}
use Rattle.record_listing.proofs.FileListLemmas.{refused}
use Rattle.salvaged_records.proofs.salvaging.salvage_records.Goals as goal

pub list_refused-requires : goal.list_refused-requires
list_refused-requires g c =
    let right = refused c.as_slice.result.now c.in-Ok-Unsound.reason c.in-Ok-Unsound.field-0-1 c.in-Ok-Unsound.field-0 c.check_bytes.result c.check_bytes.ensures c.in-Ok-Unsound.is c.in-Ok-Unsound.field-0-is in
    record {
      refused = subst (λ (bytes : List ℕ). (place : FaultPlace) × IsRight bytes (Unsound c.in-Ok-Unsound.reason place)) (c.as_slice.ensures.value ∙ sym c.as_slice-in-Ok-Unsound.ensures.value) right;
    }

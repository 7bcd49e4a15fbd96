use Rattle.std.proofs.Common.{ℕ, List, IfOk, refl, subst}
use Rattle.file_checker.specs.Sound.{IsRight}
use Rattle.record_listing.proofs.FileListLemmas.{refused}
use Rattle.record_listing.proofs.file_list.list_file_as.Goals as goal

pub returns-in-Ok-Unsound-clause-ends : goal.returns-in-Ok-Unsound-clause-ends
returns-in-Ok-Unsound-clause-ends g c = (
  refused c.args.bytes.items c.in-Ok-Unsound.reason c.in-Ok-Unsound.field-0-1 c.in-Ok-Unsound.field-0 c.check_bytes.result
      (subst (λ (bytes : List ℕ). IfOk c.check_bytes.result (IsRight bytes)) c.as_slice.ensures.value c.check_bytes.ensures)
      c.in-Ok-Unsound.is c.in-Ok-Unsound.field-0-is,
  refl,
)

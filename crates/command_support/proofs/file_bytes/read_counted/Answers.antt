use Rattle.std.proofs.Common.{◌≡◌, ◌≢◌, ℕ, List, take, Some, None, IfOk, OnErr, inl, refl, ap, subst, ◌∙◌}
use Rattle.folder_shelf.specs.Calls.{taken_shared}
use Rattle.folder_shelf.proofs.ReadingLemmas.{by_one, by_two}
use Rattle.command_support.specs.Front.{asked_by}
use Rattle.command_support.proofs.FrontLemmas.{counted_or_changed, not_counted}
use Rattle.command_support.proofs.file_bytes.read_counted.Goals as goal

pub returns-in-Err : goal.returns-in-Err
returns-in-Err g c = by_one _ _ (taken_shared c.args.path.now 4096 None) c.in-Err.ensures.failed tt (record { whole = tt; unread = inl refl })

pub returns-in-Ok-take_shared : goal.returns-in-Ok-take_shared
returns-in-Ok-take_shared g c =
    let path = c.args.path.now in
    let first = c.in-Ok.first.items in
    let bytes = c.in-Ok-take_shared.bytes.items in
    let asked = c.asked_by-asked.ensures ∙ ap asked_by c.as_slice.ensures.value in
    by_two _ _ _ (taken_shared path 4096 (Some first)) (taken_shared path c.asked_by-asked.result (Some bytes)) c.in-Ok.ensures.came c.in-Ok-take_shared.ensures.came tt tt
    (counted_or_changed path bytes first c.asked_by-asked.result c.require_first.result asked
    (subst (λ (page : List ℕ). IfOk c.require_first.result (λ whole. (whole.items ≡ bytes) × (take 4096 bytes ≡ page))) c.as_slice-in-Ok-take_shared.ensures.value c.require_first.ensures.same)
    (subst (λ (page : List ℕ). OnErr c.require_first.result (take 4096 bytes ≢ page)) c.as_slice-in-Ok-take_shared.ensures.value c.require_first.ensures.other))

pub returns : goal.returns
returns g c =
    let path = c.args.path.now in
    let first = c.in-Ok.first.items in
    let asked = c.asked_by-asked.ensures ∙ ap asked_by c.as_slice.ensures.value in
    by_two _ _ _ (taken_shared path 4096 (Some first)) (taken_shared path c.asked_by-asked.result None) c.in-Ok.ensures.came c.in-Err-take_shared.ensures.failed tt tt
    (not_counted path first c.asked_by-asked.result c.in-Err-take_shared.fault asked)

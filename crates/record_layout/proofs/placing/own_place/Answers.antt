use Rattle.std.proofs.Common.{◌≡◌, ◌∙◌, Some, Err, Option, List, ℕ, option_map, ap, sym, subst}
use Rattle.std.proofs.lemmas.Result.{err_from_is_err_and}
use Rattle.record_layout.specs.LayoutFault.{HasPictureFault}
use Rattle.record_layout.proofs.LevelLemmas.{picture_fault}
use Rattle.record_layout.proofs.placing.own_place.Goals as goal

pub returns-in_err-picture-clause-fault : goal.returns-in_err-picture-clause-fault
returns-in_err-picture-clause-fault c =
    let p = err_from_is_err_and c.from_residual.result c.from_residual.ensures.1 in
    let fault = c.in_err-picture.field-0.0 in
    let k = c.in_err-picture.ensures in
    let here : HasPictureFault c.args.total (Some c.as_bytes.result.now) fault =
    picture_fault c.args.total c.as_bytes.result.now fault (λ e. k.too_long (ap Err e)) (λ e. k.bad (ap Err e)) k.only in
    let same : ◌≡◌ {A = Option (List ℕ)} (Some c.as_bytes.result.now) (option_map (λ picture. picture.bytes) c.args.item.now.picture) =
    ap Some (c.as_bytes.ensures.value ∙ c.as_str.ensures.value) ∙ ap (option_map (λ picture. picture.bytes)) (sym c.in-Some.is) in
    rw (p.1, p.2) (subst (λ picture. HasPictureFault c.args.total picture fault) same here)

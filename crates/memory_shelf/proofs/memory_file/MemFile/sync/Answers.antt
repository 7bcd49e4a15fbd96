use Rattle.std.proofs.Common.{rules, ◌≡◌, ◌∙◌, sym, ap, subst, List, [], ◌∷◌, ◌++◌, Some, Result, Ok, Err, is_ok, if◌then◌else◌, ℕ}
use Rattle.std.proofs.lemmas.List.{map_push}
use Rattle.page_store.specs.DeviceFile.{FileStep, synced}
use Rattle.page_store.specs.Images.{MayLeave, durable}
use Rattle.memory_shelf.specs.Events.{steps, step_of}
use Rattle.memory_shelf.specs.declared.event.Event.{Event}
use Rattle.page_store.proofs.ImageLemmas.{leaves_synced}
use Rattle.memory_shelf.proofs.memory_file.MemFile.sync.Goals as goal

-- whether the sync was noted or not, the bytes are an image
either : {T E : Type 0} (r : Result T E) (log after : List Event) (e : Event) (bytes : List ℕ) → after ≡ (if is_ok r then log ++ e ∷ [] else log) → step_of e ≡ synced bytes
    → MayLeave (durable (steps log)) (Some bytes) → MayLeave (durable (steps after)) (Some bytes)
either (Ok v) log after e bytes is step was =
    let noted : steps after ≡ steps log ++ synced bytes ∷ [] = ap steps is ∙ map_push step_of log e ∙ ap (λ (s : FileStep). steps log ++ s ∷ []) step in
    subst (λ (l : List FileStep). MayLeave (durable l) (Some bytes)) (sym noted) (leaves_synced (steps log) bytes)
either (Err x) log after e bytes is step was = subst (λ (l : List Event). MayLeave (durable (steps l)) (Some bytes)) (sym is) was

pub invariant_of-self : goal.invariant_of-self
invariant_of-self c =
    let same : c.in_ok-kept.kept.items ≡ c.args.self.now.bytes.items = search rules in
    record { sound = either c.push.result _ _ _ c.args.self.now.bytes.items c.push.ensures.items (ap synced same) c.args.self.now.sound }

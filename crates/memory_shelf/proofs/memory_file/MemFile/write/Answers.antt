use Rattle.std.proofs.Common.{rules, [], ◌∷◌, ◌++◌, ◌≡◌, ◌≤◌, ◌∙◌, sym, ap, subst, List, Some, Result, Ok, Err, OnOk, OnErr, length, ℕ}
use Rattle.std.proofs.lemmas.List.{map_push}
use Rattle.page_store.specs.DeviceFile.{FileStep, Torn, overlay}
use Rattle.page_store.specs.Images.{MayLeave, durable}
use Rattle.memory_shelf.specs.Events.{steps, step_of}
use Rattle.memory_shelf.specs.declared.event.Event.TheVariants.{Wrote}
use Rattle.page_store.proofs.ImageLemmas.{leaves_written, overlay_torn, torn_self}
use Rattle.memory_shelf.proofs.memory_file.MemFile.write.Goals as goal

-- whether the bytes were written or not, no byte outside the range has changed
torn_either : {T E : Type 0} (r : Result T E) (at : ℕ) (bytes was now : List ℕ) → at ≤ length was → OnOk r (now ≡ overlay was at bytes) → OnErr r (now ≡ was) → Torn at (length bytes) was now
torn_either (Ok v) at bytes was now le ok err = subst (λ (l : List ℕ). Torn at (length bytes) was l) (sym ok) (overlay_torn was at bytes le)
torn_either (Err e) at bytes was now le ok err = subst (λ (l : List ℕ). Torn at (length bytes) was l) (sym err) (torn_self at (length bytes) was)

pub invariant_of-self-2 : goal.invariant_of-self-2
invariant_of-self-2 c =
    let pushed : c.push.new.self.items ≡ c.args.self.now.log.items ++ Wrote c.args.at (length c.args.bytes.now) ∷ [] = search rules in
    let noted = ap steps pushed ∙ map_push step_of _ _ in
    let torn = torn_either c.overwrite.result c.args.at c.args.bytes.now c.args.self.now.bytes.items c.overwrite.new.file.items c.requires c.overwrite.ensures.written c.overwrite.ensures.failed in
    record { sound = subst (λ (l : List FileStep). MayLeave (durable l) (Some c.overwrite.new.file.items)) (sym noted) (leaves_written (steps c.args.self.now.log.items) c.args.self.now.bytes.items c.overwrite.new.file.items c.args.at _ c.requires torn c.args.self.now.sound) }

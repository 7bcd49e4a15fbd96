-- A file that was not there, once the device was asked to make it.
use Rattle.std.proofs.Common.{◌≡◌, ℕ, List, [], ◌∷◌, ◌++◌, Option, Some, None, Bool, true, false, is_some, not, if◌then◌else◌, refl, sym, subst, arith}
use Rattle.page_store.specs.DeviceFile.{DeviceFile, created}
use Rattle.page_store.specs.Images.{Durable, after_step, durable, MayLeave, Leaves}
use Rattle.page_store.proofs.ImageLemmas.{durable_push}

none_of : (v : Option (List ℕ)) → not (is_some v) ≡ true → v ≡ None
none_of None h = refl
none_of (Some b) h = absurd (cc)

fresh : (d : Durable) → d.base ≡ None → MayLeave (after_step d created) (Some [])
fresh d none = rw none (refl, record { kept = λ i low out. absurd (omega arith); each = λ i low out. absurd (omega arith) })

-- what reads give then is an image, whether the file was made or not
pub made_image : (f : DeviceFile) (ok : Bool) → not (is_some f.seen) ≡ true → Leaves f f.seen → Leaves (record { seen = if ok then Some [] else f.seen; log = f.log ++ created ∷ [] }) (if ok then Some [] else f.seen)
made_image f true none sound =
    let base : Leaves f None = subst (λ (o : Option (List ℕ)). Leaves f o) (none_of f.seen none) sound in
    subst (λ (d : Durable). MayLeave d (Some [])) (sym (durable_push f.log created)) (fresh (durable f.log) base)
made_image f false none sound =
    let is = none_of f.seen none in
    let base : Leaves f None = subst (λ (o : Option (List ℕ)). Leaves f o) is sound in
    rw is (subst (λ (d : Durable). MayLeave d None) (sym (durable_push f.log created)) base)

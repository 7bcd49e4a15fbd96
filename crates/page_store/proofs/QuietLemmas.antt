-- Which calls are quiet.
use Rattle.std.proofs.Common.{zero, suc, ◌≡◌, ℕ, ◌+◌, ◌<◌, List, [], ◌∷◌, ◌++◌, Option, Some, None, true, false, ◌&&◌, leb, ltb, refl, ◌∙◌, ap, subst, arith, drop, length, slice_index, inl, inr}
use Rattle.std.proofs.lemmas.Bool.{cases_Bool, or_from, and_left, lt-leb, both_ways}
use Rattle.std.proofs.lemmas.List.{get_or-drop, length-drop}
use Rattle.page_store.specs.DeviceFile.{wrote, DeviceFile, bytes_or_none}
use Rattle.page_store.specs.Images.{Durable, after_step, durable, covered, IsImage, MayLeave}
use Rattle.page_store.proofs.ImageLemmas.{durable_push}
use Rattle.page_store.specs.Moments.{Begins, Quiet}
use Rattle.page_store.proofs.MomentLemmas.{throughout_one, begins_self}

base_is_image : (base : List ℕ) (rs : List (ℕ × ℕ)) → IsImage base rs base
base_is_image base rs = record { kept = λ i within out. within; each = λ i within out. (within, refl) }

-- any first byte, where the first byte was written
other_first : (x : ℕ) (base : List ℕ) (rs : List (ℕ × ℕ)) → covered rs 0 ≡ true → IsImage base rs (x ∷ drop 1 base)
other_first x base rs over = record { kept = λ i within out. omega (arith, length-drop 1 base); each = each }
  where
    each : (i : ℕ) → i < length (x ∷ drop 1 base) → covered rs i ≡ false → (i < length base) × (slice_index (x ∷ drop 1 base) i ≡ slice_index base i)
    each zero within out = absurd (both_ways (covered rs 0) out over)
    each (suc i) within out =
        let low : suc i < length base = omega (arith, length-drop 1 base) in
        let e : 1 + i ≡ suc i = omega arith in
        (low, get_or-drop 1 base i 0 ∙ ap (slice_index base) e)

first_of : (x : ℕ) (c base : List ℕ) → (0 < length base) × (slice_index (x ∷ c) 0 ≡ slice_index base 0) → Begins (Some (x ∷ c)) (Some base)
first_of x c [] h = let l = h.0 in absurd (omega arith)
first_of x c (y ∷ base) h = h.1

uncovered : (at n : ℕ) (rs : List (ℕ × ℕ)) → 0 < at → covered rs 0 ≡ false → covered ((at, n) ∷ rs) 0 ≡ false
uncovered at n rs low out = or_from (leb at 0 && ltb 0 (at + n)) (covered rs 0) (and_left (leb at 0) (ltb 0 (at + n)) (lt-leb at 0 low)) out

begins_written : (d : Durable) (at n : ℕ) (c : Option (List ℕ)) → 0 < at → MayLeave (after_step d (wrote at n)) c → (e : Option (List ℕ)) × MayLeave d e × Begins c e
begins_written d at n None low may = (None, may, refl)
begins_written d at n (Some []) low may = (Some (bytes_or_none d.base), (may.0, base_is_image (bytes_or_none d.base) d.ranges), tt)
begins_written d at n (Some (x ∷ c)) low may =
    elim (cases_Bool (covered d.ranges 0)) [
      | inl over ↦ (Some (x ∷ drop 1 (bytes_or_none d.base)), (may.0, other_first x (bytes_or_none d.base) d.ranges over), refl)
      | inr out ↦ (Some (bytes_or_none d.base), (may.0, base_is_image (bytes_or_none d.base) d.ranges), first_of x c (bytes_or_none d.base) (may.1.each 0 (omega arith) (uncovered at n d.ranges low out)))
    ]

-- a write behind the first byte
pub quiet_written : (f g : DeviceFile) (at n : ℕ) → 0 < at → g.log ≡ f.log ++ wrote at n ∷ [] → Quiet f g
quiet_written f g at n low same =
    throughout_one _ f g (wrote at n) same (λ c may. (c, may, begins_self c))
    (λ c may. begins_written (durable f.log) at n c low (subst (λ (d : Durable). MayLeave d c) (ap durable same ∙ durable_push f.log (wrote at n)) may))

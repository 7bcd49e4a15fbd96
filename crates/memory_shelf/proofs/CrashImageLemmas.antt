-- Each crash of a shelf in memory leaves one of the images.
use Rattle.std.proofs.Common.{zero, suc, ◌≡◌, ℕ, ◌+◌, ◌<◌, List, [], ◌∷◌, Option, Some, None, option_map, true, false, is_some, ◌||◌, length, slice_index, refl, sym, ◌∙◌, ap, subst, arith, add-zero}
use Rattle.page_store.specs.DeviceFile.{DeviceFile, bytes_or_none, absent}
use Rattle.page_store.specs.Images.{Durable, durable, covered, IsImage, MayLeave, Leaves}
use Rattle.memory_shelf.specs.CrashImages.{filled_by_ranges, image_of}
use Rattle.memory_shelf.specs.declared.crash.Image.{Image}
use Rattle.memory_shelf.specs.declared.crash.Image.TheVariants.{AsRead, Synced, Filled}

length_filled : (byte : ℕ) (rs : List (ℕ × ℕ)) (k : ℕ) (xs : List ℕ) → length (filled_by_ranges byte rs k xs) ≡ length xs
length_filled byte rs k [] = refl
length_filled byte rs k (x ∷ xs) = ap suc (length_filled byte rs (k + 1) xs)

-- a byte that no range covers stays
uncovered : (byte : ℕ) (rs : List (ℕ × ℕ)) (k : ℕ) (xs : List ℕ) (i : ℕ) → covered rs (k + i) ≡ false → slice_index (filled_by_ranges byte rs k xs) i ≡ slice_index xs i
uncovered byte rs k [] i out = refl
uncovered byte rs k (x ∷ xs) zero out = let here : k + 0 ≡ k = add-zero k in rw (subst (λ (n : ℕ). covered rs n ≡ false) here out) refl
uncovered byte rs k (x ∷ xs) (suc i) out =
    let next : k + suc i ≡ k + 1 + i = omega arith in
    uncovered byte rs (k + 1) xs i (subst (λ (n : ℕ). covered rs n ≡ false) next out)

filled_image : (byte : ℕ) (base : List ℕ) (rs : List (ℕ × ℕ)) (c : List ℕ) → IsImage base rs c → IsImage base rs (filled_by_ranges byte rs 0 c)
filled_image byte base rs c image = record {
  kept = λ i within out. let k = image.kept i within out in let e = length_filled byte rs 0 c in omega arith;
  each = λ i within out.
      let e = length_filled byte rs 0 c in
      let same = image.each i (omega arith) out in
      let zero_plus : 0 + i ≡ i = omega arith in
      (same.0, uncovered byte rs 0 c i (subst (λ (n : ℕ). covered rs n ≡ false) (sym zero_plus) out) ∙ same.1);
}

base_image : (d : Durable) → MayLeave d d.base
base_image d = go d.base refl
  where
    go : (v : Option (List ℕ)) → d.base ≡ v → MayLeave d v
    go None is = is
    go (Some bytes) is = (
      some d.base bytes is,
      record {
        kept = λ i within out. subst (λ (b : Option (List ℕ)). i < length (bytes_or_none b)) is within;
        each = λ i within out. (subst (λ (b : Option (List ℕ)). i < length (bytes_or_none b)) (sym is) within, ap (λ (b : Option (List ℕ)). slice_index (bytes_or_none b) i) (sym is));
      },
    )
      where
        some : (v : Option (List ℕ)) (bytes : List ℕ) → v ≡ Some bytes → (is_some v || d.made) ≡ true
        some None bytes e = absurd (cc)
        some (Some c) bytes e = refl

-- what a crash leaves is one of the images
pub crash_image : (image : Image) (f : DeviceFile) → Leaves f f.seen → Leaves f (image_of image f)
crash_image AsRead f may = may
crash_image Synced f may = base_image (durable f.log)
crash_image (Filled byte) f may = go f.seen may
  where
    go : (v : Option (List ℕ)) → Leaves f v → Leaves f (option_map (filled_by_ranges byte (durable f.log).ranges 0) v)
    go None may = may
    go (Some bytes) may = (may.0, filled_image byte (bytes_or_none (durable f.log).base) (durable f.log).ranges bytes may.1)

-- a file that has never been there is absent after a crash
pub absent_only : (c : Option (List ℕ)) → Leaves absent c → c ≡ None
absent_only None may = refl
absent_only (Some c) may = absurd (cc (may.0))

pub image_of_absent : (image : Image) → image_of image absent ≡ None
image_of_absent AsRead = refl
image_of_absent Synced = refl
image_of_absent (Filled byte) = refl

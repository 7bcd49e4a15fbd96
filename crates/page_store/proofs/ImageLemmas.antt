-- What each call does to the images.
use Rattle.std.proofs.Common.{zero, suc, ◌≡◌, ◌⊎◌, inl, inr, ⊎_elim, ℕ, ◌+◌, ◌-◌, ◌<◌, ◌≤◌, leb, ltb, false, ◌&&◌, List, [], ◌∷◌, ◌++◌, length, take, drop, slice_index, Option, Some, None, refl, sym, ◌∙◌, ap, subst, arith, length-append}
use Rattle.std.proofs.lemmas.Bool.{or_parts, and_cases, leb-false, ltb-false}
use Rattle.std.proofs.lemmas.List.{get_or_append_left, get_or-append_right, get_or-take, get_or-drop, length-drop, same_lists, get_or_default, length-take-le}
use Rattle.page_store.specs.DeviceFile.{FileStep, wrote, synced, overlay, Torn}
use Rattle.page_store.specs.Images.{Durable, nothing, after_step, durable_from, durable, covered, IsImage, MayLeave}

pub durable_from-append : (d : Durable) (xs ys : List FileStep) → durable_from d (xs ++ ys) ≡ durable_from (durable_from d xs) ys
durable_from-append d [] ys = refl
durable_from-append d (x ∷ xs) ys = durable_from-append (after_step d x) xs ys

pub durable_push : (log : List FileStep) (s : FileStep) → durable (log ++ s ∷ []) ≡ after_step (durable log) s
durable_push log s = durable_from-append nothing log (s ∷ [])

-- outside one more range
pub outside : (at n : ℕ) (rs : List (ℕ × ℕ)) (i : ℕ) → covered ((at, n) ∷ rs) i ≡ false → ((i < at) ⊎ (at + n ≤ i)) × (covered rs i ≡ false)
outside at n rs i out =
    let parts = or_parts (leb at i && ltb i (at + n)) (covered rs i) out in
    (⊎_elim (λ low. inl (leb-false at i low)) (λ high. inr (ltb-false i (at + n) high)) (and_cases (leb at i) (ltb i (at + n)) parts.0), parts.1)

torn_at : (at n : ℕ) (was now : List ℕ) → Torn at n was now → (i : ℕ) → i < length was → (i < at) ⊎ (at + n ≤ i) → slice_index now i ≡ slice_index was i
torn_at at n was now torn i within (inl low) = torn.below i within low
torn_at at n was now torn i within (inr high) = torn.above i within high

still_within : (at n : ℕ) (was now : List ℕ) → Torn at n was now → at ≤ length was → (i : ℕ) → i < length now → (i < at) ⊎ (at + n ≤ i) → i < length was
still_within at n was now torn le i within (inl low) = omega arith
still_within at n was now torn le i within (inr high) = let top = torn.no_longer in omega arith

-- after a write the file is an image still
pub image_torn : (base : List ℕ) (rs : List (ℕ × ℕ)) (at n : ℕ) (was now : List ℕ) → at ≤ length was → Torn at n was now → IsImage base rs was → IsImage base ((at, n) ∷ rs) now
image_torn base rs at n was now le torn image = record {
  kept = λ i within out. let o = outside at n rs i out in let k = image.kept i within o.1 in let s = torn.no_shorter in omega arith;
  each = λ i within out.
      let o = outside at n rs i out in
      let low = still_within at n was now torn le i within o.0 in
      let same = image.each i low o.1 in
      (same.0, torn_at at n was now torn i low o.0 ∙ same.1);
}

pub image_self : (bytes : List ℕ) → IsImage bytes [] bytes
image_self bytes = record { kept = λ i within out. within; each = λ i within out. (within, refl) }

-- after a sync there is one image
pub image_only : (base c : List ℕ) → IsImage base [] c → c ≡ base
image_only base c image = same_lists c base (same_length (length c) (length base) (λ i h. (image.each i h refl).0) (λ i h. image.kept i h refl)) (λ k d h. let s = image.each k h refl in get_or_default c k d 0 h ∙ s.1 ∙ get_or_default base k 0 d s.0)
  where
    same_length : (m n : ℕ) → ((i : ℕ) → i < m → i < n) → ((i : ℕ) → i < n → i < m) → m ≡ n
    same_length m n up down = omega (arith, low m n up, low n m down)
      where
        low : (a b : ℕ) → ((i : ℕ) → i < a → i < b) → a ≤ b
        low zero b f = omega arith
        low (suc a) b f = let l = f a (omega arith) in omega arith

-- bytes that are laid over others are a torn write
pub overlay_torn : (old : List ℕ) (at : ℕ) (bytes : List ℕ) → at ≤ length old → Torn at (length bytes) old (overlay old at bytes)
overlay_torn old at bytes le =
    let end = at + length bytes in
    let front : length (take at old ++ bytes) ≡ end = omega (arith, length-append (take at old) bytes, length-take-le at old le) in
    let len = length-append (take at old ++ bytes) (drop end old) in
    let rest = length-drop end old in
    record {
      no_shorter = omega arith;
      no_longer = omega arith;
      below = λ i within low.
          get_or_append_left (take at old ++ bytes) _ 0 i (omega arith)
          ∙ get_or_append_left (take at old) bytes 0 i (omega (arith, length-take-le at old le)) ∙ get_or-take at old i 0 low;
      above = λ i within high.
          let back : end + (i - end) ≡ i = omega arith in
          get_or-append_right (take at old ++ bytes) _ end i 0 front high ∙ get_or-drop end old (i - end) 0 ∙ ap (slice_index old) back;
    }

pub leaves_written : (log : List FileStep) (was now : List ℕ) (at n : ℕ) → at ≤ length was → Torn at n was now → MayLeave (durable log) (Some was) → MayLeave (durable (log ++ wrote at n ∷ [])) (Some now)
leaves_written log was now at n le torn may = subst (λ (d : Durable). MayLeave d (Some now)) (sym (durable_push log (wrote at n))) (may.0, image_torn _ _ at n was now le torn may.1)

pub leaves_synced : (log : List FileStep) (bytes : List ℕ) → MayLeave (durable (log ++ synced bytes ∷ [])) (Some bytes)
leaves_synced log bytes = subst (λ (d : Durable). MayLeave d (Some bytes)) (sym (durable_push log (synced bytes))) (refl, image_self bytes)

pub only_synced : (log : List FileStep) (bytes : List ℕ) (c : Option (List ℕ)) → MayLeave (durable (log ++ synced bytes ∷ [])) c → c ≡ Some bytes
only_synced log bytes c may = only c (subst (λ (d : Durable). MayLeave d c) (durable_push log (synced bytes)) may)
  where
    only : (c : Option (List ℕ)) → MayLeave (after_step (durable log) (synced bytes)) c → c ≡ Some bytes
    only None may = absurd (cc)
    only (Some c) may = ap Some (image_only bytes c may.1)

pub torn_self : (at n : ℕ) (was : List ℕ) → Torn at n was was
torn_self at n was = record { no_shorter = omega arith; no_longer = omega arith; below = λ i w l. refl; above = λ i w l. refl }

-- A page that was written is read, and every other page stays.
use Rattle.std.proofs.Common.{zero, suc, ◌≡◌, ◌⊎◌, inl, inr, ℕ, ◌+◌, ◌*◌, ◌<◌, ◌≤◌, ltb, List, ◌++◌, length, take, drop, get_or, refl, ◌∙◌, sym, ap, subst, arith, append_assoc, length-append}
use Rattle.std.proofs.lemmas.Bool.{cases_Bool, ltb-true, ltb-false}
use Rattle.std.proofs.lemmas.Grind.{same_number_lists}
use Rattle.std.proofs.lemmas.List.{get_or-take, get_or-drop, length-take, length-drop}
use Rattle.std.proofs.Math.Seq.{take-append_seam, drop-append_seam}
use Rattle.page_store.specs.DeviceFile.{DeviceFile, Torn, overlay, content, page_of_bytes}
use Rattle.page_store.proofs.ImageLemmas.{overlay_torn}
use Rattle.page_store.specs.Pages.{offset_of, length_of_part, part_of_page, PageWritten, PageFails, HoldsPages}
use Rattle.page_store.specs.PageFacts.{page_over}

-- the bytes in front of others
in_front : (a b r : List ℕ) (k : ℕ) → length a + length b ≡ k → take k (a ++ b ++ r) ≡ a ++ b
in_front a b r k e =
    let n : length (a ++ b) ≡ k = omega (arith, length-append a b) in
    subst (λ (i : ℕ). take i (a ++ b ++ r) ≡ a ++ b) n (take-append_seam (a ++ b) r)

-- the bytes between others
between : (a b r : List ℕ) (at k : ℕ) → length a ≡ at → length b ≡ k → take k (drop at (a ++ b ++ r)) ≡ b
between a b r at k start end =
    subst (λ (i : ℕ). take i (drop at (a ++ b ++ r)) ≡ b) end
    (subst (λ (i : ℕ). take (length b) (drop i (a ++ b ++ r)) ≡ b) start
    (ap (λ (l : List ℕ). take (length b) (drop (length a) l)) (append_assoc a b r) ∙ ap (take (length b)) (drop-append_seam a (b ++ r)) ∙ take-append_seam b r))

written_read : (n : ℕ) (old page : List ℕ) → offset_of n ≤ length old → length page ≡ 4096 → page_of_bytes (overlay old (offset_of n) (part_of_page n page)) n ≡ page_over n old page
written_read zero old page within whole =
    let rest = drop (1 + length (drop 1 page)) old in
    let start : drop (4096 * 0) (overlay old 1 (drop 1 page)) ≡ take 1 old ++ drop 1 page ++ rest = refl in
    ap (take 4096) start ∙ in_front (take 1 old) (drop 1 page) rest 4096 (omega (arith, length-take 1 old, length-drop 1 page))
written_read (suc n) old page within whole =
    between (take (offset_of (suc n)) old) page (drop (offset_of (suc n) + length page) old) (offset_of (suc n)) 4096 (omega (arith, length-take (offset_of (suc n)) old)) whole

offset_within : (pages n : ℕ) (f : DeviceFile) → HoldsPages pages f → n ≤ pages → offset_of n ≤ length (content f)
offset_within pages zero f has le = let long = has.long in omega arith
offset_within pages (suc n) f has le = let long = has.long in omega arith

pub written_is_read : (f g : DeviceFile) (n : ℕ) (page : List ℕ) → HoldsPages n f → length page ≡ 4096 → PageWritten n page f g → page_of_bytes (content g) n ≡ page_over n (content f) page
written_is_read f g n page has whole w = ap (λ (x : DeviceFile). page_of_bytes (content x) n) w.is ∙ written_read n (content f) page (offset_within n n f has (omega arith)) whole

-- a page outside the range of a write
page_outside : (at k m : ℕ) (was now : List ℕ) → Torn at k was now → 4096 * m + 4096 ≤ length was → (4096 * m + 4096 ≤ at) ⊎ (at + k ≤ 4096 * m) → page_of_bytes now m ≡ page_of_bytes was m
page_outside at k m was now torn within apart =
    same_number_lists (page_of_bytes now m) (page_of_bytes was m) same_length (λ i low. let l : i < 4096 = omega (arith, length_now) in read now i l ∙ same i l apart ∙ sym (read was i l))
  where
    more : length was ≤ length now
    more = torn.no_shorter

    length_now : length (page_of_bytes now m) ≡ 4096
    length_now = let s = more in omega (arith, length-take 4096 (drop (4096 * m) now), length-drop (4096 * m) now)

    same_length : length (page_of_bytes now m) ≡ length (page_of_bytes was m)
    same_length = let n = length_now in omega (arith, length-take 4096 (drop (4096 * m) was), length-drop (4096 * m) was)

    read : (bytes : List ℕ) (i : ℕ) → i < 4096 → get_or (page_of_bytes bytes m) i 0 ≡ get_or bytes (4096 * m + i) 0
    read bytes i low = get_or-take 4096 (drop (4096 * m) bytes) i 0 low ∙ get_or-drop (4096 * m) bytes i 0

    same : (i : ℕ) → i < 4096 → (4096 * m + 4096 ≤ at) ⊎ (at + k ≤ 4096 * m) → get_or now (4096 * m + i) 0 ≡ get_or was (4096 * m + i) 0
    same i low (inl front) = torn.below (4096 * m + i) (omega arith) (omega arith)
    same i low (inr behind) = torn.above (4096 * m + i) (omega arith) (omega arith)

other_page : (n m : ℕ) → ¬ (m ≡ n) → (4096 * m + 4096 ≤ offset_of n) ⊎ (offset_of n + length_of_part n ≤ 4096 * m)
other_page zero zero differs = absurd (differs refl)
other_page zero (suc m) differs = inr (omega arith)
other_page (suc n) m differs =
    elim (cases_Bool (ltb m (suc n))) [
      | inl below ↦ inl (omega (arith, ltb-true m (suc n) below))
      | inr above ↦ inr (omega (arith, ltb-false m (suc n) above, differs))
    ]

length_part : (n : ℕ) (page : List ℕ) → length page ≡ 4096 → length (part_of_page n page) ≡ length_of_part n
length_part zero page whole = omega (arith, length-drop 1 page)
length_part (suc n) page whole = whole

in_pages : (pages m : ℕ) (f : DeviceFile) → HoldsPages pages f → m < pages → 4096 * m + 4096 ≤ length (content f)
in_pages pages m f has low = let long = has.long in omega arith

pub others_read : (f g : DeviceFile) (pages n m : ℕ) (page : List ℕ) → HoldsPages pages f → n ≤ pages → m < pages → ¬ (m ≡ n) → length page ≡ 4096
    → PageWritten n page f g → page_of_bytes (content g) m ≡ page_of_bytes (content f) m
others_read f g pages n m page has le low differs whole w =
    let at = offset_of n in
    let now = overlay (content f) at (part_of_page n page) in
    let torn : Torn at (length_of_part n) (content f) now =
    subst (λ (k : ℕ). Torn at k (content f) now) (length_part n page whole) (overlay_torn (content f) at (part_of_page n page) (offset_within pages n f has le)) in
    ap (λ (x : DeviceFile). page_of_bytes (content x) m) w.is ∙ page_outside at (length_of_part n) m (content f) now torn (in_pages pages m f has low) (other_page n m differs)

pub others_kept : (f g : DeviceFile) (pages n m : ℕ) → HoldsPages pages f → m < pages → ¬ (m ≡ n) → PageFails n f g → page_of_bytes (content g) m ≡ page_of_bytes (content f) m
others_kept f g pages n m has low differs (inl same) = ap (λ (x : DeviceFile). page_of_bytes (content x) m) same
others_kept f g pages n m has low differs (inr torn) =
    ap (λ (x : DeviceFile). page_of_bytes (content x) m) torn.2 ∙ page_outside (offset_of n) (length_of_part n) m (content f) torn.0 torn.1 (in_pages pages m f has low) (other_page n m differs)

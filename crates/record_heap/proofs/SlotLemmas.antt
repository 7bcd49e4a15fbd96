-- The bytes of a slot after it was written.
use Rattle.std.proofs.Common.{◌≡◌, ℕ, zero, suc, ◌+◌, ◌^◌, ◌<◌, ◌≤◌, true, false, List, [], ◌∷◌, ◌++◌, length, take, drop, set, Some, refl, ap, ◌∙◌, arith}
use Rattle.std.proofs.lemmas.Bool.{lt-ltb, le-leb, le-ltb}
use Rattle.std.specs.Prelude.{slice_index, ◌==◌, nat_le}
use Rattle.std.proofs.lemmas.List.{append-nil, take_at, drop_at, drop-drop}
use borrow.Rule.Slice.PartMut.{put_mid}
use Rattle.byteorder.specs.Endian.{big_number, big_bytes}
use Rattle.byteorder.specs.Numbers.{big_number-reads_back}
use Rattle.record_heap.specs.declared.shape.SlotShape.{SlotShape}
use Rattle.record_heap.specs.declared.shape.Place.{Place}
use Rattle.record_heap.specs.Slot.{head, is_varying, length_in_slot, used_in, behind_in}

-- the mark, and bytes behind it
pub marked : (slot part : List ℕ) (mark k : ℕ) → 1 ≤ length slot → put_mid 1 k (set slot 0 mark) part ≡ mark ∷ (part ++ drop (suc k) slot)
marked [] part mark k h = absurd (omega arith)
marked (x ∷ xs) part mark k h = refl

-- the mark, some bytes, and others behind these
pub marked_twice : (slot first second : List ℕ) (mark n k : ℕ) → 1 ≤ length slot → length first ≡ n
    → put_mid (suc n) k (put_mid 1 n (set slot 0 mark) first) second ≡ mark ∷ (first ++ (second ++ drop (suc (n + k)) slot))
marked_twice [] first second mark n k h long = absurd (omega arith)
marked_twice (x ∷ xs) first second mark n k h long =
    ap (λ (l : List ℕ). mark ∷ (l ++ (second ++ drop k (drop n (first ++ drop n xs))))) (take_at first (drop n xs) n long)
    ∙ ap (λ (l : List ℕ). mark ∷ (first ++ (second ++ drop k l))) (drop_at first (drop n xs) n long)
    ∙ ap (λ (l : List ℕ). mark ∷ (first ++ (second ++ l))) (drop-drop k n xs)

pub behind_is : (slot b4 b2 rest : List ℕ) (next : Place) → slot ≡ 0 ∷ (b4 ++ (b2 ++ rest)) → b4 ≡ big_bytes 4 next.page → b2 ≡ big_bytes 2 next.slot → next.page < 256 ^ 4 → next.slot < 256 ^ 2
    → behind_in slot ≡ Some next
behind_is slot b4 b2 rest next is first second small small' =
    let p : big_number 4 (drop 1 slot) ≡ next.page = ap (λ (l : List ℕ). big_number 4 (drop 1 l)) is ∙ ap (λ (l : List ℕ). big_number 4 (l ++ (b2 ++ rest))) first ∙ big_number-reads_back 4 next.page (b2 ++ rest) small in
    let s : big_number 2 (drop 5 slot) ≡ next.slot = ap (λ (l : List ℕ). big_number 2 (drop 5 l)) is ∙ ap (big_number 2) (drop_at b4 (b2 ++ rest) 4 (ap length first))
    ∙ ap (λ (l : List ℕ). big_number 2 (l ++ rest)) second ∙ big_number-reads_back 2 next.slot rest small' in
    let tag : (slice_index slot 0 == 0) ≡ true = ap (λ (l : List ℕ). slice_index l 0 == 0) is in
    rw tag (ap Some (ap (λ (n : ℕ). let it : Place = record { page = n; slot = big_number 2 (drop 5 slot) } in it) p ∙ ap (λ (n : ℕ). let it : Place = record { page = next.page; slot = n } in it) s))

used_when : (shape : SlotShape) (slot bytes : List ℕ) (n : ℕ) → (slice_index slot 0 == 1) ≡ true → length_in_slot shape slot ≡ n → shape.least ≤ n → n ≤ shape.greatest
    → take (shape.stamps + n) (drop (head shape) slot) ≡ bytes → used_in shape slot ≡ Some bytes
used_when shape slot bytes n tag long low high is =
    let a : nat_le shape.least (length_in_slot shape slot) ≡ true = ap (nat_le shape.least) long ∙ le-leb shape.least n low in
    let b : nat_le (length_in_slot shape slot) shape.greatest ≡ true = ap (λ (k : ℕ). nat_le k shape.greatest) long ∙ le-leb n shape.greatest high in
    rw (tag, a, b) (ap Some (ap (λ (k : ℕ). take (shape.stamps + k) (drop (head shape) slot)) long ∙ is))

pub used_fixed : (shape : SlotShape) (slot bytes rest : List ℕ) → slot ≡ 1 ∷ (bytes ++ rest) → shape.least ≡ shape.greatest → length bytes ≡ shape.stamps + shape.greatest
    → used_in shape slot ≡ Some bytes
used_fixed shape slot bytes rest is same long =
    let fixed : is_varying shape ≡ false = le-ltb shape.least shape.greatest (omega arith) in
    used_when shape slot bytes shape.greatest (ap (λ (l : List ℕ). slice_index l 0 == 1) is) (rw fixed refl) (omega arith) (omega arith)
    (rw fixed (ap (λ (l : List ℕ). take (shape.stamps + shape.greatest) (drop 1 l)) is ∙ take_at bytes rest (shape.stamps + shape.greatest) long))

pub used_varying : (shape : SlotShape) (slot b2 bytes rest : List ℕ) (n : ℕ) → slot ≡ 1 ∷ (b2 ++ (bytes ++ rest)) → shape.least < shape.greatest → b2 ≡ big_bytes 2 n → n < 256 ^ 2
    → length bytes ≡ shape.stamps + n → shape.least ≤ n → n ≤ shape.greatest → used_in shape slot ≡ Some bytes
used_varying shape slot b2 bytes rest n is varies second small long low high =
    let varying : is_varying shape ≡ true = lt-ltb shape.least shape.greatest varies in
    used_when shape slot bytes n (ap (λ (l : List ℕ). slice_index l 0 == 1) is)
    (rw varying (ap (λ (l : List ℕ). big_number 2 (drop 1 l)) is ∙ ap (λ (l : List ℕ). big_number 2 (l ++ (bytes ++ rest))) second ∙ big_number-reads_back 2 n (bytes ++ rest) small)) low high
    (rw varying (ap (λ (l : List ℕ). take (shape.stamps + n) (drop 3 l)) is ∙ ap (take (shape.stamps + n)) (drop_at b2 (bytes ++ rest) 2 (ap length second)) ∙ take_at bytes rest (shape.stamps + n) long))

-- nothing is left behind the first n of n bytes
pub none_behind : (n : ℕ) (bytes rest : List ℕ) → bytes ++ drop n (take n rest) ≡ bytes
none_behind n bytes rest = ap (λ (l : List ℕ). bytes ++ l) (drop-take_none n rest) ∙ append-nil bytes
  where
    drop-take_none : (n : ℕ) (rest : List ℕ) → drop n (take n rest) ≡ []
    drop-take_none zero rest = refl
    drop-take_none (suc n) [] = refl
    drop-take_none (suc n) (x ∷ rest) = drop-take_none n rest

-- The stamps in a slot, one after another.
use Rattle.std.proofs.Common.{◌≡◌, ℕ, zero, suc, ◌+◌, ◌-◌, ◌≤◌, ◌<◌, true, false, List, [], ◌∷◌, ◌++◌, length, take, drop, refl, ap, sym, ◌∙◌, arith, append_assoc, length-append, length-drop}
use Rattle.std.specs.Prelude.{slice_index_or, if◌then◌else◌}
use Rattle.std.proofs.Math.Seq.{drop-nil, take-length}
use Rattle.byteorder.specs.Endian.{big_number}
use Rattle.record_layout.specs.declared.schema.KeyPart.{KeyPart}
use Rattle.record_layout.specs.Schema.{has_duplicates}
use Rattle.open_file.specs.Stored.{stamps_length}
use Rattle.open_file.specs.ReadOff.{stamps_off}
use Rattle.open_file.proofs.LookLemmas.{dropped}

-- the stamps of the keys before k were read
pub record AreRead (keys : List KeyPart) (slot : List ℕ) (k at : ℕ) (stamps : List ℕ) : Type 0 where
  pub whole : stamps ++ stamps_off (drop k keys) (drop at slot) ≡ stamps_off (drop 1 keys) slot
  pub long : at + stamps_length (drop k keys) ≡ stamps_length (drop 1 keys)
  pub many : length stamps + 1 ≡ k

pub read_start : (keys : List KeyPart) (slot : List ℕ) → AreRead keys slot 1 0 []
read_start keys slot = record { whole = refl; long = omega arith; many = refl }

drop_drop : {X : Type 0} (m n k : ℕ) (xs : List X) → k ≡ n + m → drop m (drop n xs) ≡ drop k xs
drop_drop m zero k xs e = let same : m ≡ k = omega (arith, e) in ap (λ i. drop i xs) same
drop_drop m (suc n) k [] e = drop-nil m ∙ sym (drop-nil k)
drop_drop m (suc n) zero (x ∷ xs) e = absurd (omega (arith, e))
drop_drop m (suc n) (suc k) (x ∷ xs) e = drop_drop m n k xs (omega (arith, e))

one_more : (stamps : List ℕ) (s : ℕ) (rest : List ℕ) → (stamps ++ s ∷ []) ++ rest ≡ stamps ++ s ∷ rest
one_more stamps s rest = append_assoc stamps (s ∷ []) rest

pub read_more : (keys : List KeyPart) (d : KeyPart) (slot : List ℕ) (k at : ℕ) (stamps now : List ℕ) (s : ℕ) → k < length keys → has_duplicates (slice_index_or keys k d) ≡ true → s ≡ big_number 8 (take (length slot - at) (drop at slot)) → now ≡ stamps ++ s ∷ []
    → AreRead keys slot k at stamps → AreRead keys slot (k + 1) (at + 8) now
read_more keys d slot k at stamps now s lt many read is r =
    let number : s ≡ big_number 8 (drop at slot) = read ∙ ap (λ n. big_number 8 (take n (drop at slot))) (sym (length-drop at slot)) ∙ ap (big_number 8) (take-length (drop at slot)) in
    let e = dropped keys d k lt in
    let parts = drop (k + 1) keys in
    let off : stamps_off (drop k keys) (drop at slot) ≡ s ∷ stamps_off parts (drop (at + 8) slot) =
    ap (λ ks. stamps_off ks (drop at slot)) e
    ∙ ap (λ b. if b then big_number 8 (drop at slot) ∷ stamps_off parts (drop 8 (drop at slot)) else 0 ∷ stamps_off parts (drop at slot)) many
    ∙ ap (λ bs. big_number 8 (drop at slot) ∷ stamps_off parts bs) (drop_drop 8 at (at + 8) slot refl) ∙ ap (λ n. n ∷ stamps_off parts (drop (at + 8) slot)) (sym number) in
    record {
      whole = ap (λ ss. ss ++ stamps_off parts (drop (at + 8) slot)) is ∙ one_more stamps s (stamps_off parts (drop (at + 8) slot)) ∙ ap (λ rest. stamps ++ rest) (sym off) ∙ r.whole;
      long = (let l : stamps_length (drop k keys) ≡ 8 + stamps_length parts = ap stamps_length e ∙ ap (λ b. if b then 8 + stamps_length parts else stamps_length parts) many in omega (arith, l, r.long));
      many = (let l : length now ≡ length stamps + 1 = ap length is ∙ length-append stamps (s ∷ []) in omega (arith, l, r.many));
    }

pub read_none : (keys : List KeyPart) (d : KeyPart) (slot : List ℕ) (k at : ℕ) (stamps now : List ℕ) → k < length keys → has_duplicates (slice_index_or keys k d) ≡ false → now ≡ stamps ++ 0 ∷ []
    → AreRead keys slot k at stamps → AreRead keys slot (k + 1) at now
read_none keys d slot k at stamps now lt one is r =
    let e = dropped keys d k lt in
    let parts = drop (k + 1) keys in
    let off : stamps_off (drop k keys) (drop at slot) ≡ 0 ∷ stamps_off parts (drop at slot) =
    ap (λ ks. stamps_off ks (drop at slot)) e
    ∙ ap (λ b. if b then big_number 8 (drop at slot) ∷ stamps_off parts (drop 8 (drop at slot)) else 0 ∷ stamps_off parts (drop at slot)) one in
    record {
      whole = ap (λ ss. ss ++ stamps_off parts (drop at slot)) is ∙ one_more stamps 0 (stamps_off parts (drop at slot)) ∙ ap (λ rest. stamps ++ rest) (sym off) ∙ r.whole;
      long = (let l : stamps_length (drop k keys) ≡ stamps_length parts = ap stamps_length e ∙ ap (λ b. if b then 8 + stamps_length parts else stamps_length parts) one in omega (arith, l, r.long));
      many = (let l : length now ≡ length stamps + 1 = ap length is ∙ length-append stamps (0 ∷ []) in omega (arith, l, r.many));
    }

-- one more stamp is within them
pub read_room : (keys : List KeyPart) (d : KeyPart) (slot : List ℕ) (k at : ℕ) (stamps : List ℕ) → k < length keys → has_duplicates (slice_index_or keys k d) ≡ true → AreRead keys slot k at stamps → at + 8 ≤ stamps_length (drop 1 keys)
read_room keys d slot k at stamps lt many r =
    let e = dropped keys d k lt in
    let parts = drop (k + 1) keys in
    let l : stamps_length (drop k keys) ≡ 8 + stamps_length parts = ap stamps_length e ∙ ap (λ b. if b then 8 + stamps_length parts else stamps_length parts) many in
    omega (arith, l, r.long)

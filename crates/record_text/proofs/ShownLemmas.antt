-- Bytes as they are shown: no two are shown alike, and none as the front of another.
use Rattle.std.proofs.Common.{◌≡◌, ℕ, ◌+◌, ◌/◌, ◌%◌, Bool, true, false, List, [], ◌∷◌, ◌++◌, flat_map, refl, sym, ap, ◌∙◌, arith, true≢false, append_assoc}
use Rattle.std.specs.Prelude.{if◌then◌else◌, nat_lt}
use Rattle.std.proofs.lemmas.Bool.{ltb-true}
use Rattle.deck_runner.specs.Line.{is_plain, shown_byte}
use Rattle.streams.specs.Hex.{hex_digit}

same_digit : (m n : ℕ) (a b : Bool) → nat_lt m 10 ≡ a → nat_lt n 10 ≡ b → (if a then 48 + m else 87 + m) ≡ (if b then 48 + n else 87 + n) → m ≡ n
same_digit m n true true p q e = omega (arith, e)
same_digit m n true false p q e = let below = ltb-true m 10 p in omega (arith, e, below)
same_digit m n false true p q e = let below = ltb-true n 10 q in omega (arith, e, below)
same_digit m n false false p q e = omega (arith, e)

same_hex_digit : (m n : ℕ) → hex_digit m ≡ hex_digit n → m ≡ n
same_hex_digit m n e = same_digit m n (nat_lt m 10) (nat_lt n 10) refl refl e

same_parts : (a b : ℕ) → a / 16 ≡ b / 16 → a % 16 ≡ b % 16 → a ≡ b
same_parts a b high low = omega (arith, high, low)

abbrev escape_of : ℕ → List ℕ
escape_of byte = 92 ∷ hex_digit (byte / 16) ∷ hex_digit (byte % 16) ∷ []

abbrev shown_by : Bool → ℕ → List ℕ
shown_by plain byte = if plain then byte ∷ [] else escape_of byte

not_plain : (byte : ℕ) → byte ≡ 92 → is_plain byte ≡ true → ⊥
not_plain byte is plain = true≢false (sym plain ∙ ap is_plain is)

apart_by : (a b : ℕ) (x y : List ℕ) (p q : Bool) → is_plain a ≡ p → is_plain b ≡ q → shown_by p a ++ x ≡ shown_by q b ++ y → (a ≡ b) × (x ≡ y)
apart_by a b x y true true p q e = (cc, cc)
apart_by a b x y true false p q e = let is : a ≡ 92 = cc in absurd (not_plain a is p)
apart_by a b x y false true p q e = let is : b ≡ 92 = cc in absurd (not_plain b is q)
apart_by a b x y false false p q e =
    let high : hex_digit (a / 16) ≡ hex_digit (b / 16) = cc in
    let low : hex_digit (a % 16) ≡ hex_digit (b % 16) = cc in
    (same_parts a b (same_hex_digit (a / 16) (b / 16) high) (same_hex_digit (a % 16) (b % 16) low), cc)

-- two texts that begin with a byte as it is shown begin with the same one
pub shown_apart : (a b : ℕ) (x y : List ℕ) → shown_byte a ++ x ≡ shown_byte b ++ y → (a ≡ b) × (x ≡ y)
shown_apart a b x y e = apart_by a b x y (is_plain a) (is_plain b) refl refl e

-- ---- the end of a line

not_lf_by : (byte : ℕ) (x y : List ℕ) (plain : Bool) → is_plain byte ≡ plain → 10 ∷ x ≡ shown_by plain byte ++ y → ⊥
not_lf_by byte x y true p e = let is : byte ≡ 10 = cc in true≢false (sym p ∙ ap is_plain is)
not_lf_by byte x y false p e = let is : ◌≡◌ {A = ℕ} 10 92 = cc in absurd (omega (arith, is))

not_lf : (bytes x y : List ℕ) → 10 ∷ x ≡ flat_map shown_byte bytes ++ (93 ∷ 10 ∷ y) → ⊥
not_lf [] x y e = let is : ◌≡◌ {A = ℕ} 10 93 = cc in absurd (omega (arith, is))
not_lf (byte ∷ bytes) x y e = not_lf_by byte x (flat_map shown_byte bytes ++ (93 ∷ 10 ∷ y)) (is_plain byte) refl (rw append_assoc at e)

no_end_by : (byte : ℕ) (bytes x y : List ℕ) (plain : Bool) → 93 ∷ 10 ∷ x ≡ shown_by plain byte ++ (flat_map shown_byte bytes ++ (93 ∷ 10 ∷ y)) → ⊥
no_end_by byte bytes x y true e = not_lf bytes x y (cc)
no_end_by byte bytes x y false e = let is : ◌≡◌ {A = ℕ} 93 92 = cc in absurd (omega (arith, is))

-- where a bracket and LF stand, no byte of a record is shown
pub no_end : (byte : ℕ) (bytes x y : List ℕ) → 93 ∷ 10 ∷ x ≡ flat_map shown_byte (byte ∷ bytes) ++ (93 ∷ 10 ∷ y) → ⊥
no_end byte bytes x y e = no_end_by byte bytes x y (is_plain byte) (rw append_assoc at e)

-- A bound, read byte after byte.
use Rattle.std.proofs.Common.{arith, ◌≡◌, ◌≤◌, ◌-◌, ℕ, List, [], ◌∷◌, ◌++◌, length, take, drop, slice_index_or, Option, Some, None, refl, sym, ap, ◌∙◌, append_assoc, append-nil, subst}
use Rattle.std.specs.Option.{option_map_or}
use Rattle.std.proofs.lemmas.List.{take_rest}
use Rattle.command_support.specs.Bound.{byte_in, byte_of_digits, unescaped, StandsForByte}
use Rattle.streams.specs.Hex.{hex_number}

-- a byte is written as an escape
escape_stands : (first high low : ℕ) (rest : List ℕ) (byte : ℕ) → byte_in (first ∷ high ∷ low ∷ rest) ≡ Some byte → StandsForByte (first ∷ high ∷ low ∷ rest) byte rest
escape_stands first high low rest byte is = record {
  bytes = ap (λ (o : Option ℕ). option_map_or (λ (b : ℕ). b ∷ unescaped rest) o (first ∷ unescaped (high ∷ low ∷ rest))) is;
  shorter = omega arith;
}

plain_bytes : (first : ℕ) (rest : List ℕ) → byte_in (first ∷ rest) ≡ None → unescaped (first ∷ rest) ≡ first ∷ unescaped rest
plain_bytes first [] is = refl
plain_bytes first (high ∷ []) is = refl
plain_bytes first (high ∷ low ∷ rest) is = ap (λ (o : Option ℕ). option_map_or (λ (b : ℕ). b ∷ unescaped rest) o (first ∷ unescaped (high ∷ low ∷ rest))) is

-- an escape is at the front of a text
pub escape_in_front : (text : List ℕ) (byte : ℕ) → 3 ≤ length text → slice_index_or text 0 0 ≡ 92 → byte_of_digits (hex_number (slice_index_or text 1 0)) (hex_number (slice_index_or text 2 0)) ≡ Some byte
    → StandsForByte text byte (take (length text - 3) (drop 3 text))
escape_in_front [] byte long first digits = let no : ⊥ = omega (arith, long) in absurd no
escape_in_front (a ∷ []) byte long first digits = let no : ⊥ = omega (arith, long) in absurd no
escape_in_front (a ∷ b ∷ []) byte long first digits = let no : ⊥ = omega (arith, long) in absurd no
escape_in_front (a ∷ high ∷ low ∷ rest) byte long first digits =
    subst (λ (left : List ℕ). StandsForByte (a ∷ high ∷ low ∷ rest) byte left) (sym (take_rest (a ∷ high ∷ low ∷ rest) 3))
    (escape_stands a high low rest byte (subst (λ (f : ℕ). byte_in (f ∷ high ∷ low ∷ rest) ≡ Some byte) (sym first) digits))

-- a byte that stands for itself is
pub plain_in_front : (text : List ℕ) → 1 ≤ length text → byte_in text ≡ None → StandsForByte text (slice_index_or text 0 0) (take (length text - 1) (drop 1 text))
plain_in_front [] long none = let no : ⊥ = omega (arith, long) in absurd no
plain_in_front (first ∷ rest) long none =
    subst (λ (left : List ℕ). StandsForByte (first ∷ rest) first left) (sym (take_rest (first ∷ rest) 1))
    (record { bytes = plain_bytes first rest none; shorter = omega arith })

-- one byte more was read
pub read_on : (text done left : List ℕ) (byte : ℕ) (rest : List ℕ) → done ++ unescaped left ≡ unescaped text → StandsForByte left byte rest → (done ++ byte ∷ []) ++ unescaped rest ≡ unescaped text
read_on text done left byte rest so stands = append_assoc done (byte ∷ []) (unescaped rest) ∙ ap (λ (l : List ℕ). done ++ l) (sym stands.bytes) ∙ so

-- all were read
pub all_read : (text done left : List ℕ) → left ≡ [] → done ++ unescaped left ≡ unescaped text → done ≡ unescaped text
all_read text done left none so = sym (append-nil done) ∙ ap (λ (l : List ℕ). done ++ unescaped l) (sym none) ∙ so

-- Escapes, characters and the bytes that both stand for.
use Rattle.std.proofs.Common.{◌≡◌, ◌≢◌, ℕ, ◌+◌, ◌-◌, ◌*◌, ◌/◌, ◌%◌, ◌<◌, Bool, true, false, refl, ap, ◌∙◌, arith, subst}
use Rattle.std.specs.Prelude.{if◌then◌else◌, nat_lt, ◌==◌, ◌&&◌, ◌||◌, not}
use Rattle.std.proofs.lemmas.Bool.{true≢false, false≢true, eqb-true, ne_eqb, ltb-true, lt-ltb, and_parts, and_left, or_from, agree_below, agree_below_at}
use Rattle.streams.specs.Characters.{is_latin, is_character, latin_byte}
use Rattle.streams.specs.Escapes.{digit_number, is_digit, is_escape, byte_of}
use Rattle.streams.specs.Hex.{hex_digit}

pub if_true : {A : Type 0} (t : Bool) (x y : A) → t ≡ true → (if t then x else y) ≡ x
if_true true x y h = refl
if_true false x y h = absurd (false≢true h)

pub if_false : {A : Type 0} (t : Bool) (x y : A) → t ≡ false → (if t then x else y) ≡ y
if_false true x y h = absurd (true≢false h)
if_false false x y h = refl

-- one test holds where another one does
imply_at : (a b : Bool) → (not a || b) ≡ true → a ≡ true → b ≡ true
imply_at true b h e = h
imply_at false b h e = absurd (false≢true e)

-- so at each byte, where that computes
of_byte : (p q : ℕ → Bool) (byte : ℕ) → agree_below (λ b. not (p b) || q b) (λ _. true) 256 ≡ true → byte < 256
    → p byte ≡ true → q byte ≡ true
of_byte p q byte h small = imply_at (p byte) (q byte) (agree_below_at (λ b. not (p b) || q b) (λ _. true) 256 byte h small)

-- the digit of the number that a digit has
digit_back : (char : ℕ) → char < 256 → is_digit char ≡ true → hex_digit (digit_number char) ≡ char
digit_back char small h =
    eqb-true (hex_digit (digit_number char)) char (of_byte is_digit (λ b. hex_digit (digit_number b) == b) char refl small h)

digit_small : (char : ℕ) → char < 256 → is_digit char ≡ true → digit_number char < 16
digit_small char small h = ltb-true (digit_number char) 16 (of_byte is_digit (λ b. nat_lt (digit_number b) 16) char refl small h)

-- a digit from a to f
abbrev is_high : ℕ → Bool
is_high char = nat_lt 96 char && nat_lt char 103

high_back : (char : ℕ) → char < 256 → is_high char ≡ true → hex_digit (char - 87) ≡ char
high_back char small h =
    eqb-true (hex_digit (char - 87)) char (of_byte is_high (λ b. hex_digit (b - 87) == b) char refl small h)

-- what an escape is
pub record Escaped (a b c : ℕ) : Type 0 where
  pub backslash : a ≡ 92
  pub high : is_high b ≡ true
  pub above : 96 < b
  pub below : b < 103
  pub digit : is_digit c ≡ true

pub escaped : (a b c : ℕ) → is_escape a b c ≡ true → Escaped a b c
escaped a b c h =
    let first = and_parts (a == 92 && nat_lt 96 b && nat_lt b 103) (is_digit c) h in
    let second = and_parts (a == 92 && nat_lt 96 b) (nat_lt b 103) first.0 in
    let third = and_parts (a == 92) (nat_lt 96 b) second.0 in
    record {
      backslash = eqb-true a 92 third.0;
      high = rw (third.1, second.1) refl;
      above = ltb-true 96 b third.1;
      below = ltb-true b 103 second.1;
      digit = first.1;
    }

-- the byte of an escape is one from a0 to ff
above_bound : (b d : ℕ) → 96 < b → 159 < (b - 87) * 16 + d
above_bound b d above = omega (arith, above)

below_bound : (b d : ℕ) → b < 103 → d < 16 → (b - 87) * 16 + d < 256
below_bound b d below low = omega (arith, below, low)

pub escaped_small : (a b c : ℕ) → c < 256 → Escaped a b c → byte_of b c < 256
escaped_small a b c small e = below_bound b (digit_number c) e.below (digit_small c small e.digit)

pub latin_of_escape : (a b c : ℕ) → c < 256 → Escaped a b c → nat_lt 159 (byte_of b c) ≡ true
latin_of_escape a b c small e = lt-ltb 159 (byte_of b c) (above_bound b (digit_number c) e.above)

high_part : (b d : ℕ) → 96 < b → d < 16 → ((b - 87) * 16 + d) / 16 ≡ b - 87
high_part b d above low = omega (arith, above, low)

low_part : (b d : ℕ) → 96 < b → d < 16 → ((b - 87) * 16 + d) % 16 ≡ d
low_part b d above low = omega (arith, above, low)

pub high_digit : (a b c : ℕ) → c < 256 → Escaped a b c → hex_digit (byte_of b c / 16) ≡ b
high_digit a b c small e =
    let below = e.below in
    ap hex_digit (high_part b (digit_number c) e.above (digit_small c small e.digit)) ∙ high_back b (omega (arith, below)) e.high

pub low_digit : (a b c : ℕ) → c < 256 → Escaped a b c → hex_digit (byte_of b c % 16) ≡ c
low_digit a b c small e =
    ap hex_digit (low_part b (digit_number c) e.above (digit_small c small e.digit)) ∙ digit_back c small e.digit

-- ---- characters

-- the two bytes of a byte from a0 to ff are a character, and the byte comes back
pub latin_character : (byte : ℕ) → byte < 256 → nat_lt 159 byte ≡ true → is_character (192 + byte / 64) (128 + byte % 64) ≡ true
latin_character byte small h =
    of_byte (λ b. nat_lt 159 b) (λ b. is_character (192 + b / 64) (128 + b % 64)) byte refl small h

pub latin_back : (byte : ℕ) → byte < 256 → nat_lt 159 byte ≡ true → latin_byte (192 + byte / 64) (128 + byte % 64) ≡ byte
latin_back byte small h =
    eqb-true (latin_byte (192 + byte / 64) (128 + byte % 64)) byte
    (of_byte (λ b. nat_lt 159 b) (λ b. latin_byte (192 + b / 64) (128 + b % 64) == b) byte refl small h)

-- a byte of ASCII begins no character
pub ascii_begins_none : (lead next : ℕ) → lead < 128 → is_character lead next ≡ false
ascii_begins_none lead next h =
    or_from (lead == 194 && nat_lt 159 next && nat_lt next 192) (lead == 195 && nat_lt 127 next && nat_lt next 192)
    (and_left (lead == 194 && nat_lt 159 next) (nat_lt next 192) (and_left (lead == 194) (nat_lt 159 next) (ne_eqb lead 194 (λ e. absurd (omega (arith, h, e))))))
    (and_left (lead == 195 && nat_lt 127 next) (nat_lt next 192) (and_left (lead == 195) (nat_lt 127 next) (ne_eqb lead 195 (λ e. absurd (omega (arith, h, e))))))

-- ---- the escapes of all bytes

no_test : (char : ℕ) → char ≡ 92 → not (char == 92) ≡ true → ⊥
no_test char e h = false≢true (subst (λ (k : ℕ). not (k == 92) ≡ true) e h)

-- the digits of a byte are no backslash
pub digit_no_backslash : (n : ℕ) → n < 256 → hex_digit n ≢ 92
digit_no_backslash n small e =
    let test : (not (hex_digit n == 92)) ≡ true = agree_below_at (λ b. not (hex_digit b == 92)) (λ _. true) 256 n refl small in
    no_test (hex_digit n) e test

-- the escape of a byte from a0 to ff is one
pub latin_escape : (byte : ℕ) → byte < 256 → is_latin byte ≡ true → is_escape 92 (hex_digit (byte / 16)) (hex_digit (byte % 16)) ≡ true
latin_escape byte small h =
    of_byte is_latin (λ b. is_escape 92 (hex_digit (b / 16)) (hex_digit (b % 16))) byte refl small h

pub latin_byte_of : (byte : ℕ) → byte < 256 → is_latin byte ≡ true → byte_of (hex_digit (byte / 16)) (hex_digit (byte % 16)) ≡ byte
latin_byte_of byte small h =
    eqb-true (byte_of (hex_digit (byte / 16)) (hex_digit (byte % 16))) byte
    (of_byte is_latin (λ b. byte_of (hex_digit (b / 16)) (hex_digit (b % 16)) == b) byte refl small h)

-- that of another byte is none
not_true : (t : Bool) → not t ≡ true → t ≡ false
not_true true h = absurd (false≢true h)
not_true false h = refl

from_false : (t : Bool) → t ≡ false → not t ≡ true
from_false true h = absurd (true≢false h)
from_false false h = refl

pub other_escape : (byte : ℕ) → byte < 256 → is_latin byte ≡ false → is_escape 92 (hex_digit (byte / 16)) (hex_digit (byte % 16)) ≡ false
other_escape byte small h =
    not_true (is_escape 92 (hex_digit (byte / 16)) (hex_digit (byte % 16)))
    (of_byte (λ b. not (is_latin b)) (λ b. not (is_escape 92 (hex_digit (b / 16)) (hex_digit (b % 16)))) byte refl small (from_false (is_latin byte) h))

-- what begins with no backslash is no escape
pub no_backslash : (a b c : ℕ) → a ≢ 92 → is_escape a b c ≡ false
no_backslash a b c h =
    and_left (a == 92 && nat_lt 96 b && nat_lt b 103) (is_digit c)
    (and_left (a == 92 && nat_lt 96 b) (nat_lt b 103) (and_left (a == 92) (nat_lt 96 b) (ne_eqb a 92 h)))

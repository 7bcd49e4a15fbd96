-- The bytes of records that stand for characters. All of this is ours, but for what is said to be of a standard.
use Rattle.std.specs.Prelude.{ℕ, ◌+◌, ◌/◌, ◌%◌, ◌==◌, ◌&&◌, ◌||◌, Bool, nat_lt, List, [], ◌∷◌, if◌then◌else◌}

-- ISO 8859-1, Latin alphabet No. 1: each of these bytes is a character, which is no control
abbrev pub is_latin : ℕ → Bool
is_latin byte = nat_lt 159 byte && nat_lt byte 256

-- RFC 3629, UTF-8, a transformation format of ISO 10646: a character from U+0080 to U+07FF has two bytes
abbrev pub two_bytes : ℕ → List ℕ
two_bytes code = (192 + code / 64) ∷ (128 + code % 64) ∷ []

-- two bytes are one of the characters U+00A0 to U+00FF
abbrev pub is_character : (lead next : ℕ) → Bool
is_character lead next = (lead == 194 && nat_lt 159 next && nat_lt next 192)
    || (lead == 195 && nat_lt 127 next && nat_lt next 192)

-- the byte that it is
abbrev pub latin_byte : (lead next : ℕ) → ℕ
latin_byte lead next = if lead == 194 then next else next + 64

-- The escapes of those bytes in the lines of records.
use Rattle.std.specs.Prelude.{ℕ, ◌+◌, ◌-◌, ◌*◌, ◌/◌, ◌%◌, ◌==◌, ◌&&◌, ◌||◌, Bool, nat_lt, List, [], ◌∷◌, if◌then◌else◌}
use Rattle.streams.specs.Hex.{hex_digit}
use Rattle.streams.specs.declared.backslashes.Backslashes.{Backslashes}
use Rattle.streams.specs.declared.backslashes.Backslashes.TheVariants.{One, Two}

-- a backslash, or two in JSON, and the two digits of a byte
abbrev pub escape_of : Backslashes → ℕ → List ℕ
escape_of One byte = 92 ∷ hex_digit (byte / 16) ∷ hex_digit (byte % 16) ∷ []
escape_of Two byte = 92 ∷ 92 ∷ hex_digit (byte / 16) ∷ hex_digit (byte % 16) ∷ []

-- the number of a hexadecimal digit in lower case
abbrev pub digit_number : ℕ → ℕ
digit_number char = if nat_lt char 58 then char - 48 else char - 87

-- a hexadecimal digit in lower case
abbrev pub is_digit : ℕ → Bool
is_digit char = (nat_lt 47 char && nat_lt char 58) || (nat_lt 96 char && nat_lt char 103)

-- a backslash and two digits, of which the first is one from a to f: a byte from a0 to ff
abbrev pub is_escape : (backslash high low : ℕ) → Bool
is_escape backslash high low = backslash == 92 && nat_lt 96 high && nat_lt high 103 && is_digit low

-- the byte of such digits
abbrev pub byte_of : (high low : ℕ) → ℕ
byte_of high low = (high - 87) * 16 + digit_number low

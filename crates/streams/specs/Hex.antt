-- Hexadecimal digits.
use Rattle.std.specs.Prelude.{ℕ, ◌+◌, ◌-◌, ◌&&◌, Option, Some, None, nat_le, nat_lt, if◌then◌else◌}

-- a hexadecimal digit, in lower case
abbrev pub hex_digit : ℕ → ℕ
hex_digit n = if nat_lt n 10 then 48 + n else 87 + n

-- the number of a hexadecimal digit in lower case, if it is one
abbrev pub hex_number : ℕ → Option ℕ
hex_number digit = if nat_le 48 digit && nat_le digit 57 then Some (digit - 48)
    else (if nat_le 97 digit && nat_le digit 102 then Some (digit - 87) else None)

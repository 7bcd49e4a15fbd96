-- What a value begins with, as a number.
use Rattle.std.specs.Prelude.{ℕ, List}
use Rattle.byteorder.specs.Endian.{big_number}

-- its first eight bytes, the highest first; zeros stand behind a shorter one
abbrev pub lead_of_value : List ℕ → ℕ
lead_of_value value = big_number 8 value

-- The name of a file in its folder. All of this is ours.
use Rattle.std.specs.Prelude.{ℕ, ◌==◌, Bool, ◌&&◌, ◌||◌, List, length, nat_le, slice_index}
use Rattle.std.specs.Char.{is_ascii_digit}
use Rattle.std.specs.List.{list_all}

abbrev pub is_capital : ℕ → Bool
is_capital byte = nat_le 65 byte && nat_le byte 90

abbrev pub is_small : ℕ → Bool
is_small byte = nat_le 97 byte && nat_le byte 122

abbrev pub is_letter_or_digit : ℕ → Bool
is_letter_or_digit byte = is_capital byte || is_small byte || is_ascii_digit byte

-- 1 to 64 letters, digits, points, hyphens and underscores, the first a letter or digit
abbrev pub is_file_name : List ℕ → Bool
is_file_name text =
    nat_le (length text) 64 && is_letter_or_digit (slice_index text 0)
    && list_all (λ byte. is_letter_or_digit byte || byte == 46 || byte == 45 || byte == 95) text

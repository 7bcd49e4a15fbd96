-- Bits, in words of 64.
use Rattle.std.specs.Prelude.{ℕ, ◌/◌, ◌%◌, ◌==◌, Bool, List, slice_index_or}
use Rattle.std.specs.Int.{bit_at}

-- bit i of the words is set
abbrev pub bit_of : List ℕ → ℕ → Bool
bit_of words i = bit_at (slice_index_or words (i / 64) 0) (i % 64) == 1

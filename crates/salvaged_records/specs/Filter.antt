-- The filter of values: bits that tell of a value that it has not been marked.
use Rattle.std.specs.Prelude.{◌≡◌, ℕ, ◌+◌, ◌*◌, ◌/◌, ◌%◌, ◌^◌, ◌==◌, ◌&&◌, Bool, true, List, [], ◌∷◌, length}
use Rattle.std.specs.Prelude.{slice_index_or}
use Rattle.std.specs.Int.{bit_at}

-- bit i of the words is marked
abbrev pub is_marked : List ℕ → ℕ → Bool
is_marked words i = bit_at (slice_index_or words (i / 64) 0) (i % 64) == 1

-- no mark was taken away
abbrev pub KeepsMarks : (old new : List ℕ) → Type 0
KeepsMarks old new = (i : ℕ) → is_marked old i ≡ true → is_marked new i ≡ true

-- the number of a value, by which its bits are found
abbrev pub number_with : ℕ → ℕ → ℕ
number_with number byte = (number * 1099511628211 % 2 ^ 64 + (byte + 1)) % 2 ^ 64

abbrev pub number_from : ℕ → List ℕ → ℕ
number_from number [] = number
number_from number (byte ∷ bytes) = number_from (number_with number byte) bytes

abbrev pub filter_number : List ℕ → ℕ
filter_number value = number_from 14695981039346656037 value

-- the bit of a number, among so many, by a factor
abbrev pub bit_by : (factor number bits : ℕ) → ℕ
bit_by factor number bits = number * factor % 2 ^ 64 / 2 ^ 20 % bits

-- the three bits of a number are marked
abbrev pub has_marks : List ℕ → (number : ℕ) → Bool
has_marks words number = is_marked words (bit_by 11400714819323198485 number (64 * length words))
    && (is_marked words (bit_by 14181476777654086739 number (64 * length words))
    && is_marked words (bit_by 9650029242287828579 number (64 * length words)))

-- the value may have been met: the bits of its number are marked
abbrev pub may_have : List ℕ → List ℕ → Bool
may_have words value = has_marks words (filter_number value)

-- a value was met that has this number, if the answer to whether it may have been met before is this
pub record MeetsNumber (old new : List ℕ) (number : ℕ) (answer : Bool) : Type 0 where
  pub before : has_marks old number ≡ true → answer ≡ true
  pub met : has_marks new number ≡ true
  pub keeps : KeepsMarks old new
  pub long : length new ≡ length old

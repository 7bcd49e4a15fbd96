-- What a reader was asked, and what it gave. All of this is ours.
use Rattle.std.specs.Prelude.{◌≡◌, ◌<◌, ℕ, List, [], ◌∷◌, ◌++◌, length, take, slice_get, slice_index, Option}
use Rattle.std.specs.Prelude.{Some, None, option_map, Result, Ok, Err}

-- a read: for how many bytes there was room, and those that it gave, if it did not fail
pub record AskedRead : Type 0 where
  pub room : ℕ
  pub given : Option (List ℕ)

-- as the code notes it: the room, and a second number where it gave these bytes
abbrev pub read_of_numbers : List ℕ → List ℕ → AskedRead
read_of_numbers numbers bytes = record {
  room = slice_index numbers 0;
  given = option_map (λ _. bytes) (slice_get numbers 1);
}

-- a read that was answered so, and left this in the room
abbrev pub answered_read : {E : Type 0} → Result ℕ E → List ℕ → AskedRead
answered_read (Ok n) room = record { room = length room; given = Some (take n room) }
answered_read (Err error) room = record { room = length room; given = None }

-- the bytes that a read gave
abbrev pub bytes_given : Option (List ℕ) → List ℕ
bytes_given (Some bytes) = bytes
bytes_given None = []

-- the bytes that these reads gave, the newest read in front
abbrev pub bytes_of_reads : List AskedRead → List ℕ
bytes_of_reads [] = []
bytes_of_reads (read ∷ earlier) = bytes_of_reads earlier ++ bytes_given read.given

-- the newest read gave no byte, though there was room
abbrev pub TellEnd : List AskedRead → Type 0
TellEnd [] = ⊥
TellEnd (read ∷ earlier) = (read.given ≡ Some []) × (0 < read.room)

-- the newest read failed, or was interrupted
abbrev pub TellFailure : List AskedRead → Type 0
TellFailure [] = ⊥
TellFailure (read ∷ earlier) = read.given ≡ None

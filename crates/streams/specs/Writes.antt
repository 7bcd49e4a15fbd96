-- What a writer was asked, and what it answered. All of this is ours.
use Rattle.std.specs.Prelude.{ℕ, List, [], ◌∷◌, ◌++◌, take, slice_get, Option, Some, None, Result, Ok, Err}

-- a write: the bytes that were to be written, and how many of them were taken, if it did not fail
pub record AskedWrite : Type 0 where
  pub bytes : List ℕ
  pub taken : Option ℕ

-- as the code notes it: with one number, or with none
abbrev pub write_of_numbers : List ℕ → List ℕ → AskedWrite
write_of_numbers numbers bytes = record { bytes = bytes; taken = slice_get numbers 0 }

-- a write of these bytes that was answered so
abbrev pub answered_write : {E : Type 0} → Result ℕ E → List ℕ → AskedWrite
answered_write (Ok n) bytes = record { bytes = bytes; taken = Some n }
answered_write (Err error) bytes = record { bytes = bytes; taken = None }

-- the bytes that a write took
abbrev pub taken_first : Option ℕ → List ℕ → List ℕ
taken_first (Some n) bytes = take n bytes
taken_first None bytes = []

-- the bytes that these writes took, the newest write in front
abbrev pub taken_by : List AskedWrite → List ℕ
taken_by [] = []
taken_by (write ∷ earlier) = taken_by earlier ++ taken_first write.taken write.bytes

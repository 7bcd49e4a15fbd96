-- The rows that a call looks for.
use Rattle.arrayvec.specs.ArrayVec.{ArrayVec}
use Rattle.indexed_file.specs.Answers.{found_of, key_of_row}
use Rattle.indexed_file.specs.declared.answer.Found.{Found}
use Rattle.std.specs.Prelude.{ℕ, Bool, List, Option, filter, option_map}
use Rattle.record_layout.specs.Schema.{Schema}
use Rattle.indexed_file.specs.File.{Row, File}
use Rattle.indexed_file.specs.Rank.{has_value, admits, satisfies, least, lowest}
use Rattle.list_library.specs.declared.wanted.Wanted.{Wanted}
use Rattle.list_library.specs.declared.wanted.Wanted.TheVariants.{Admitted, Equal, Related}

-- a row is one of them by key k
abbrev pub is_wanted : Schema → ℕ → Wanted → Row → Bool
is_wanted schema k (Admitted position) row = admits schema k position.now row
is_wanted schema k (Equal value) row = has_value schema k value.now row
is_wanted schema k (Related relation operand) row = satisfies schema k relation operand.now row

-- of those wanted, the lowest of some rows, and the row of least rank of a file
abbrev pub lowest_wanted : Schema → ℕ → Wanted → List Row → Option Row
lowest_wanted schema k wanted rows = lowest schema k (filter (is_wanted schema k wanted) rows)

abbrev pub first_wanted : Schema → ℕ → Wanted → File → Option Row
first_wanted schema k wanted file = least schema k (is_wanted schema k wanted) file

-- what is told of that row, and its full value of the key
abbrev pub found_wanted : Schema → ℕ → Wanted → File → Option Found
found_wanted schema k wanted file = option_map (found_of schema k file) (first_wanted schema k wanted file)

abbrev pub key_wanted : Schema → ℕ → Wanted → File → Option (ArrayVec ℕ)
key_wanted schema k wanted file = option_map (key_of_row schema k) (first_wanted schema k wanted file)

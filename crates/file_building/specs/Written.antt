-- What records, added one after another, make of a file without rows.
use Rattle.std.specs.Prelude.{◌≡◌, ℕ, ◌+◌, Bool, true, false, List, [], ◌∷◌, length, ⊤}
use Rattle.std.specs.Ordering.{is_lt}
use Rattle.record_layout.specs.Schema.{Schema, prime_of}
use Rattle.indexed_file.specs.File.{Row, File}
use Rattle.indexed_file.specs.Change.{clashes, added, new_row}
use Rattle.indexed_file.specs.Sound.{is_length}
use Rattle.io_state.specs.Rank.{value_cmp}
use Rattle.pages.specs.Each.{Each}

-- the file with these records more, which were added one after another
abbrev pub with_all_added : Schema → List (List ℕ) → File → File
with_all_added schema [] file = file
with_all_added schema (bytes ∷ records) file = with_all_added schema records (added schema bytes file)

-- none of them clashed with the rows that were there by then
abbrev pub AreAccepted : Schema → List (List ℕ) → File → Type 0
AreAccepted schema [] file = ⊤
AreAccepted schema (bytes ∷ records) file =
    (clashes schema bytes file.rows ≡ false) × AreAccepted schema records (added schema bytes file)

-- the prime value of one record comes before that of another
abbrev pub comes_before : Schema → List ℕ → List ℕ → Bool
comes_before schema a b = is_lt (value_cmp (prime_of schema a) (prime_of schema b))

-- the prime value of each record comes before those of all behind it
abbrev pub RecordsRise : Schema → List (List ℕ) → Type 0
RecordsRise schema [] = ⊤
RecordsRise schema (bytes ∷ records) =
    Each (λ other. comes_before schema bytes other ≡ true) records × RecordsRise schema records

-- each record has from the least to the greatest length
abbrev pub HaveLengths : Schema → List (List ℕ) → Type 0
HaveLengths schema records = Each (λ bytes. is_length schema (length bytes) ≡ true) records

-- the rows of records whose prime values rise, of which the first takes this stamp
abbrev pub rows_with_stamps : Schema → ℕ → List (List ℕ) → List Row
rows_with_stamps schema stamp [] = []
rows_with_stamps schema stamp (bytes ∷ records) = new_row schema stamp bytes ∷ rows_with_stamps schema (stamp + 1) records

-- the rows of records in a file that had none
abbrev pub rows_of : Schema → List (List ℕ) → List Row
rows_of schema records = rows_with_stamps schema 1 records

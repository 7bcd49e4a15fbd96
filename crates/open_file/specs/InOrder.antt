-- The rows of a file in the order of their ranks by a key, and the entries that an index has of them.
use Rattle.std.specs.Prelude.{ℕ, List, [], ◌∷◌, map, if◌then◌else◌}
use Rattle.std.specs.Ordering.{is_lt}
use Rattle.record_layout.specs.Schema.{Schema, value_of, prime_of}
use Rattle.indexed_file.specs.File.{Row, stamp_of}
use Rattle.indexed_file.specs.Rank.{row_cmp}
use Rattle.key_index.specs.declared.entry.AltEntry.{AltEntry}
use Rattle.key_index.specs.declared.entry.PrimeEntry.{PrimeEntry}
use Rattle.record_heap.specs.declared.shape.Place.{Place}

-- rows in order, with one more
abbrev pub put_row : Schema → ℕ → Row → List Row → List Row
put_row schema k row [] = row ∷ []
put_row schema k row (next ∷ rows) = if is_lt (row_cmp schema k next row) then next
    ∷ put_row schema k row rows
    else row ∷ next ∷ rows

-- these rows, in order by key k
abbrev pub in_order : Schema → ℕ → List Row → List Row
in_order schema k [] = []
in_order schema k (row ∷ rows) = put_row schema k row (in_order schema k rows)

-- what alternate index k has of a row
abbrev pub alt_entry : Schema → ℕ → Row → AltEntry
alt_entry schema k row = record {
  value = record { items = value_of schema k row.bytes };
  stamp = stamp_of k row;
  prime = record { items = prime_of schema row.bytes };
}

-- the entries of alternate index k
abbrev pub alt_entries : Schema → ℕ → List Row → List AltEntry
alt_entries schema k rows = map (alt_entry schema k) (in_order schema k rows)

-- the entries of the prime index: rows stand in the order of their prime values, each at its place
abbrev pub prime_entries : Schema → List Place → List Row → List PrimeEntry
prime_entries schema [] rows = []
prime_entries schema (place ∷ places) [] = []
prime_entries schema (place ∷ places) (row ∷ rows) =
    record {
      value = record { items = prime_of schema row.bytes };
      place = place;
    } ∷ prime_entries schema places rows

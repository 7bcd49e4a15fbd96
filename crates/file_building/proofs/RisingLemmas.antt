-- The prime values of the rows of a file rise.
use Rattle.std.proofs.Common.{◌≡◌, ℕ, true, List, [], ◌∷◌, IsTrue}
use Rattle.std.specs.Prelude.{◌&&◌}
use Rattle.std.specs.List.{list_all}
use Rattle.std.specs.Ordering.{is_lt}
use Rattle.std.proofs.lemmas.Bool.{and_parts}
use Rattle.io_state.specs.Rank.{value_cmp}
use Rattle.record_layout.specs.Schema.{Schema, prime_of}
use Rattle.indexed_file.specs.File.{Row, File}
use Rattle.indexed_file.specs.Sound.{is_file, are_rows, are_apart}
use Rattle.pages.specs.Each.{Each}
use Rattle.file_building.specs.Rows.{RowsRise}

each_after : (schema : Schema) (row : Row) (rows : List Row)
    → list_all (λ other. is_lt (value_cmp (prime_of schema row.bytes) (prime_of schema other.bytes)) && are_apart schema row other) rows ≡ true
    → Each (λ other. is_lt (value_cmp (prime_of schema row.bytes) (prime_of schema other.bytes)) ≡ true) rows
each_after schema row [] h = tt
each_after schema row (other ∷ rows) h =
    let one = and_parts _ _ h in
    ((and_parts _ _ one.0).0, each_after schema row rows one.1)

rows_of_file : (schema : Schema) (next : ℕ) (rows : List Row) → are_rows schema next rows ≡ true → RowsRise schema rows
rows_of_file schema next [] h = tt
rows_of_file schema next (row ∷ rows) h =
    let one = and_parts _ _ h in
    (each_after schema row rows (and_parts _ _ one.0).1, rows_of_file schema next rows one.1)

pub file_rises : (schema : Schema) (file : File) → IsTrue (is_file schema file) → RowsRise schema file.rows
file_rises schema file sound = rows_of_file schema file.next_stamp file.rows (and_parts _ _ sound).1

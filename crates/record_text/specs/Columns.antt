-- The columns of a record, and their values as text. All of this is ours.
use Rattle.std.specs.Prelude.{ℕ, List, take, drop, flat_map}
use Rattle.deck_runner.specs.Line.{shown_byte}
use Rattle.record_text.specs.declared.column.Column.{Column}

-- bytes as text, all of it printable ASCII: each byte as the transcript shows it
abbrev pub text_of : List ℕ → List ℕ
text_of bytes = flat_map shown_byte bytes

-- the bytes of a column in a record, as many as the record has of them
abbrev pub cell_of : Column → List ℕ → List ℕ
cell_of column bytes = take column.length (drop column.offset bytes)

-- the value of a column in a record
abbrev pub column_value : List ℕ → Column → List ℕ
column_value bytes column = text_of (cell_of column bytes)

abbrev pub column_name : Column → List ℕ
column_name column = text_of column.name.bytes

-- The line of a record in each form, and what stands before the first one. All of this is ours.
use Rattle.std.specs.Prelude.{ℕ, List, [], ◌∷◌, ◌++◌, map, flat_map}
use Rattle.record_text.specs.declared.column.Column.{Column}
use Rattle.record_text.specs.declared.form.Form.{Form}
use Rattle.record_text.specs.declared.form.Form.TheVariants.{Text, Csv, Json}
use Rattle.record_text.specs.Columns.{text_of, column_name, column_value}
use Rattle.record_text.specs.Csv.{field, csv_line}
use Rattle.record_text.specs.Json.{Member, member, json_line}

-- text: the record in brackets, and LF
abbrev pub text_line : List ℕ → List ℕ
text_line bytes = 91 ∷ (text_of bytes ++ (93 ∷ 10 ∷ []))

-- a column as a member of an object
abbrev pub member_of : List ℕ → Column → Member
member_of bytes column = record { name = column_name column; value = column_value bytes column }

-- the line of a record of these bytes
abbrev pub line_in : Form → List ℕ → List ℕ
line_in Text bytes = text_line bytes
line_in (Csv columns) bytes = csv_line (map (column_value bytes) columns.items)
line_in (Json columns) bytes = json_line (map (member_of bytes) columns.items)

-- what stands before the first line: in CSV the names of the columns
abbrev pub form_header : Form → List ℕ
form_header Text = []
form_header (Csv columns) = csv_line (map column_name columns.items)
form_header (Json columns) = []

-- the values of columns in a line of CSV, each behind a comma
abbrev pub more_values : List ℕ → List Column → List ℕ
more_values bytes columns = flat_map (λ column. 44 ∷ field (column_value bytes column)) columns

-- so the names of columns
abbrev pub more_names : List Column → List ℕ
more_names columns = flat_map (λ column. 44 ∷ field (column_name column)) columns

-- so the members of columns in a line of JSON
abbrev pub more_members : List ℕ → List Column → List ℕ
more_members bytes columns = flat_map (λ column. 44 ∷ member (member_of bytes column)) columns

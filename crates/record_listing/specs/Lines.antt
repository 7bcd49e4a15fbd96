-- The list of rows: a line for each, in the form that is asked for.
use Rattle.std.specs.Prelude.{ℕ, List, ◌++◌, flat_map}
use Rattle.indexed_file.specs.File.{Row}
use Rattle.record_text.specs.declared.form.Form.{Form}
use Rattle.record_text.specs.Lines.{text_line, line_in, form_header}

-- the line of a record as text
abbrev pub record_text_line : List ℕ → List ℕ
record_text_line bytes = text_line bytes

-- the lines of rows
abbrev pub lines_of_rows : Form → List Row → List ℕ
lines_of_rows form rows = flat_map (λ row. line_in form row.bytes) rows

-- the whole list
abbrev pub list_of : Form → List Row → List ℕ
list_of form rows = form_header form ++ lines_of_rows form rows

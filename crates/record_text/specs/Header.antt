-- What stands before the first record of a text.
use Rattle.std.specs.Prelude.{◌≡◌, ℕ, List, ◌++◌}
use Rattle.record_text.specs.declared.form.Form.{Form}
use Rattle.record_text.specs.declared.form.Form.TheVariants.{Text, Csv, Json}
use Rattle.record_text.specs.Lines.{form_header}

-- how many lines that is
abbrev pub header_lines : Form → ℕ
header_lines Text = 0
header_lines (Csv columns) = 1
header_lines (Json columns) = 0

-- a text does not begin with it; where it is nothing, each text does
abbrev pub LacksHeader : Form → List ℕ → Type 0
LacksHeader form text = (rest : List ℕ) → text ≡ form_header form ++ rest → ⊥

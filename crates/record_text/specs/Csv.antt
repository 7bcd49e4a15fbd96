-- A line of CSV.
-- RFC 4180, Common Format and MIME Type for Comma-Separated Values (CSV) Files: fields with commas
-- between, and CRLF.
use Rattle.std.specs.Prelude.{ℕ, ◌==◌, List, [], ◌∷◌, ◌++◌, flat_map, if◌then◌else◌}
use Rattle.deck_runner.specs.Line.{shown_byte}

-- a quote in a field stands twice
abbrev pub doubled_quote : ℕ → List ℕ
doubled_quote byte = if byte == 34 then 34 ∷ 34 ∷ [] else byte ∷ []

-- a field, in quotes (ours: each field has them, so that spaces are kept and a line with one empty
-- field is no empty line)
abbrev pub field : List ℕ → List ℕ
field text = 34 ∷ (flat_map doubled_quote text ++ 34 ∷ [])

-- bytes as they are shown, in a field
abbrev pub doubled_bytes : List ℕ → List ℕ
doubled_bytes bytes = flat_map (λ byte. flat_map doubled_quote (shown_byte byte)) bytes

-- fields, with a comma between each and the next one
abbrev pub fields : List (List ℕ) → List ℕ
fields [] = []
fields (text ∷ texts) = field text ++ flat_map (λ more. 44 ∷ field more) texts

abbrev pub csv_line : List (List ℕ) → List ℕ
csv_line texts = fields texts ++ 13 ∷ 10 ∷ []

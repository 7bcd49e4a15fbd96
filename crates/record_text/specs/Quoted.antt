-- The values of a record's columns, in quotes, as CSV and JSON have them in a line. All of this is ours.
use Rattle.std.specs.Prelude.{◌≡◌, ℕ, ◌+◌, ◌==◌, ◌<◌, Bool, true, false, List, [], ◌∷◌, ◌++◌, flat_map, take}
use Rattle.std.specs.Prelude.{drop, length, Option, None, IfSome, ◌≤◌, if◌then◌else◌}
use Rattle.deck_runner.specs.Line.{shown_byte}
use Rattle.record_text.specs.declared.column.Column.{Column}
use Rattle.record_text.specs.Csv.{doubled_quote}
use Rattle.record_text.specs.Json.{escaped}
use Rattle.record_text.specs.declared.quoted.Quoting.{Quoting}
use Rattle.record_text.specs.declared.shown_byte.ShownByte.{ShownByte}
use Rattle.record_text.specs.declared.quoted.Quoting.TheVariants.{Doubled, Escaped}

-- a byte of a record, as it stands in quotes
abbrev pub quoted_byte : Quoting → ℕ → List ℕ
quoted_byte Doubled byte = flat_map doubled_quote (shown_byte byte)
quoted_byte Escaped byte = flat_map escaped (shown_byte byte)

-- bytes, as they stand in quotes
abbrev pub inside : Quoting → List ℕ → List ℕ
inside quoting bytes = flat_map (quoted_byte quoting) bytes

-- no byte stands here
abbrev pub BeginsWithNoByte : Quoting → List ℕ → Type 0
BeginsWithNoByte quoting text = (byte : ℕ) (rest : List ℕ) → byte < 256
    → text ≡ quoted_byte quoting byte ++ rest → ⊥

-- the byte that a text begins with was read, as it stands in quotes; or none stands there
pub record ReadsByte (quoting : Quoting) (text : List ℕ) (result : Option ShownByte) : Type 0 where
  pub byte : IfSome result (λ first. first.byte < 256)
  pub shown : IfSome result (λ first. (text ≡ quoted_byte quoting first.byte ++ drop first.size text)
      × (first.size ≤ length text))
  pub none : result ≡ None → BeginsWithNoByte quoting text

-- a text does not begin so, whatever is behind
abbrev pub LacksFront : (List ℕ → List ℕ) → List ℕ → Type 0
LacksFront front text = (behind : List ℕ) → text ≡ front behind → ⊥

-- a text does not begin with these bytes
abbrev pub LacksStart : List ℕ → List ℕ → Type 0
LacksStart start text = LacksFront (λ behind. start ++ behind) text

-- so many bytes at the front of a text show a byte
abbrev pub ShowsFirst : List ℕ → ShownByte → Type 0
ShowsFirst text first =
    (text ≡ shown_byte first.byte ++ drop first.size text) × (first.size ≤ length text)

-- a comma, if this is not the first column, and what is behind it
abbrev pub behind_comma : (is_first : Bool) → List ℕ → List ℕ
behind_comma true behind = behind
behind_comma false behind = 44 ∷ behind

-- in JSON the name of a column in quotes, and a colon; and what is behind it
abbrev pub behind_label : Quoting → (name : List ℕ) → List ℕ → List ℕ
behind_label Doubled name behind = behind
behind_label Escaped name behind = 34 ∷ (inside Escaped name ++ (34 ∷ 58 ∷ behind))

-- all that stands before the bytes of a column, and what is behind it
abbrev pub value_front : Quoting → (is_first : Bool) → (name behind : List ℕ) → List ℕ
value_front quoting is_first name behind = behind_comma is_first (behind_label quoting name (34 ∷ behind))

-- the bytes of a column in quotes, with what stands before them and behind them
abbrev pub value_text : Quoting → (is_first : Bool) → (name bytes behind : List ℕ) → List ℕ
value_text quoting is_first name bytes behind = value_front quoting is_first name
    (inside quoting bytes ++ (34 ∷ behind))

-- the bytes of columns that stand one behind the other, and what is behind them
abbrev pub values_text : Quoting → (is_first : Bool) → List Column → (bytes behind : List ℕ) → List ℕ
values_text quoting is_first [] bytes behind = behind
values_text quoting is_first (column ∷ columns) bytes behind =
    value_text quoting is_first column.name.bytes (take column.length bytes)
    (values_text quoting false columns (drop column.length bytes) behind)

-- the place up to which the bytes of a column may reach, where so many of the record were read
abbrev pub column_end : Column → ℕ → ℕ
column_end column at = if at == column.offset then at + column.length else at

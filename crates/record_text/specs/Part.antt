-- A part of a record that is read of a text. All of this is ours.
use Rattle.std.specs.Prelude.{◌≡◌, ◌≤◌, ℕ, ◌+◌, Bool, true, List, ◌∷◌, ◌++◌, length, map, take, drop, ⊤}
use Rattle.record_text.specs.declared.column.Column.{Column}
use Rattle.record_text.specs.declared.form.Form.{Form}
use Rattle.record_text.specs.Columns.{column_value}
use Rattle.record_text.specs.Csv.{csv_line}
use Rattle.record_text.specs.Json.{json_line}
use Rattle.record_text.specs.Lines.{line_in, member_of}
use Rattle.record_text.specs.declared.quoted.Quoting.{Quoting}
use Rattle.record_text.specs.declared.cell.Cell.{Cell}
use Rattle.record_text.specs.declared.line_reading.RecordLine.{RecordLine}
use Rattle.record_text.specs.ReadLine.{AreBytes}
use Rattle.record_text.specs.Quoted.{inside, value_text, values_text, BeginsWithNoByte}

-- bytes were read into the area from one place up to another one, and no other bytes give the text;
-- `text_of` is the text that bytes give, with what is behind it, of which `MayFollow` is so
pub record ReadsPart (text_of : List ℕ → List ℕ → List ℕ) (MayFollow : List ℕ → Type 0)
    (text area : List ℕ) (from to : ℕ) (area_after : List ℕ) (at : ℕ) (behind : List ℕ) : Type 0 where
  pub bytes : List ℕ
  pub are_bytes : AreBytes bytes
  pub front : take at area_after ≡ take from area ++ bytes
  pub at_is : at ≡ from + length bytes
  pub within : at ≤ to
  pub same : length area_after ≡ length area
  pub rest : drop at area_after ≡ drop at area
  pub text_is : text ≡ text_of bytes behind
  pub only : (others other_behind : List ℕ) → AreBytes others → from + length others ≤ to
      → MayFollow other_behind
      → text ≡ text_of others other_behind → (others ≡ bytes) × (other_behind ≡ behind)

-- no bytes that have room give the text
abbrev pub HasNoPart : (List ℕ → List ℕ → List ℕ) → (List ℕ → Type 0) → (text : List ℕ) → (from to : ℕ)
    → Type 0
HasNoPart text_of MayFollow text from to =
    (bytes behind : List ℕ) → AreBytes bytes → from + length bytes ≤ to → MayFollow behind
    → text ≡ text_of bytes behind → ⊥

-- bytes in quotes, up to the quote
abbrev pub inside_text : Quoting → List ℕ → List ℕ → List ℕ
inside_text quoting bytes behind = inside quoting bytes ++ behind

-- bytes in quotes were read into the area, up to what is the front of no byte
abbrev pub ReadsInside : Quoting → (text area : List ℕ) → (from to : ℕ) → (area_after : List ℕ) → Cell
    → Type 0
ReadsInside quoting text area from to area_after cell =
    ReadsPart (inside_text quoting) (BeginsWithNoByte quoting) text area from to area_after cell.at
    cell.behind.now

-- what is behind a quote that ends a value
abbrev pub EndsValue : Quoting → List ℕ → Type 0
EndsValue quoting behind = BeginsWithNoByte quoting (34 ∷ behind)

-- the value of a column was read into the area, from one place on and not past another one
abbrev pub ReadsValue : Quoting → (is_first : Bool) → (name text area : List ℕ) → (from to : ℕ)
    → (area_after : List ℕ) → (at : ℕ) → (behind : List ℕ) → Type 0
ReadsValue quoting is_first name text area from to area_after at behind =
    ReadsPart (value_text quoting is_first name) (EndsValue quoting) text area from to area_after at behind

-- so, up to where the cell tells
abbrev pub ReadsCell : Quoting → (is_first : Bool) → (name text area : List ℕ) → (from to : ℕ)
    → (area_after : List ℕ) → Cell → Type 0
ReadsCell quoting is_first name text area from to area_after cell =
    ReadsValue quoting is_first name text area from to area_after cell.at cell.behind.now

-- no bytes that have room are the value of the column
abbrev pub HasNoValue : Quoting → (is_first : Bool) → (name text : List ℕ) → (from to : ℕ) → Type 0
HasNoValue quoting is_first name text from to =
    HasNoPart (value_text quoting is_first name) (EndsValue quoting) text from to

-- the values of columns were read into the area, from its first place on
abbrev pub ReadsValues : Quoting → List Column → (text area area_after : List ℕ) → (at : ℕ)
    → (behind : List ℕ) → Type 0
ReadsValues quoting columns text area area_after at behind =
    ReadsPart (values_text quoting true columns) (EndsValue quoting) text area 0 (length area) area_after
    at behind

-- so, up to where the cell tells
abbrev pub ReadsCells : Quoting → List Column → (text area area_after : List ℕ) → Cell → Type 0
ReadsCells quoting columns text area area_after cell =
    ReadsValues quoting columns text area area_after cell.at cell.behind.now

-- no bytes that have room are the values of columns
abbrev pub HasNoValues : Quoting → List Column → (text area : List ℕ) → Type 0
HasNoValues quoting columns text area =
    HasNoPart (values_text quoting true columns) (EndsValue quoting) text 0 (length area)

-- the area reaches up to a place, and another one is not past that
pub record HasPlaces (area : List ℕ) (from to : ℕ) : Type 0 where
  pub order : from ≤ to
  pub room : to ≤ length area

-- a line of CSV
abbrev pub csv_text : List Column → List ℕ → List ℕ → List ℕ
csv_text columns bytes behind = csv_line (map (column_value bytes) columns) ++ behind

-- a line of JSON
abbrev pub json_text : List Column → List ℕ → List ℕ → List ℕ
json_text columns bytes behind = json_line (map (member_of bytes) columns) ++ behind

-- a line
abbrev pub line_text : Form → List ℕ → List ℕ → List ℕ
line_text form bytes behind = line_in form bytes ++ behind

abbrev pub Anything : List ℕ → Type 0
Anything behind = ⊤

-- the record at the front of a text was read into the front of the area, whatever is behind it
abbrev pub ReadsFront : (List ℕ → List ℕ → List ℕ) → (text area area_after : List ℕ) → (n : ℕ)
    → (behind : List ℕ) → Type 0
ReadsFront text_of text area area_after n behind =
    ReadsPart text_of Anything text area 0 (length area) area_after n behind

-- so, up to where the line tells
abbrev pub ReadsUpTo : (List ℕ → List ℕ → List ℕ) → (text area area_after : List ℕ) → RecordLine → Type 0
ReadsUpTo text_of text area area_after line =
    ReadsFront text_of text area area_after line.length line.behind.now

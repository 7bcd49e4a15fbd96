-- The record that a line says where a value that is shorter than its column is filled up. All of this is ours.
use Rattle.std.specs.Prelude.{◌≡◌, ◌<◌, ◌≤◌, ℕ, ◌-◌, Bool, true, false, List, [], ◌∷◌, ◌++◌, length, map, flat_map}
use Rattle.std.specs.Prelude.{replicate}
use Rattle.std.specs.List.{list_all}
use Rattle.std.specs.Char.{is_ascii_digit}
use Rattle.pages.specs.Each.{Each}
use Rattle.record_layout.specs.Area.{fitted}
use Rattle.record_layout.specs.declared.area.Source.TheVariants.{Text, Digits}
use Rattle.record_text.specs.declared.column.Column.{Column}
use Rattle.record_text.specs.declared.form.Form.{Form}
use Rattle.record_text.specs.declared.form.Form.TheVariants as forms
use Rattle.record_text.specs.Columns.{text_of, column_name}
use Rattle.record_text.specs.Csv.{csv_line}
use Rattle.record_text.specs.Json.{Member, json_line}
use Rattle.record_text.specs.Lines.{text_line}
use Rattle.record_text.specs.ReadLine.{AreBytes}

-- ---- a value

-- a value, filled up to so many bytes: with spaces behind it, or with zeros before its digits
abbrev pub padded : (numeric : Bool) → (n : ℕ) → List ℕ → List ℕ
padded false n value = value ++ replicate (n - length value) 32
padded true n value = replicate (n - length value) 48 ++ value

-- a value that has room is filled up to what an item holds after a MOVE of it, of a text or of digits
abbrev pub IsPaddedByMove : Type 0
IsPaddedByMove = (n : ℕ) (value : List ℕ) → length value ≤ n
    → (padded false n value ≡ fitted false n (Text value)) × (padded true n value ≡ fitted true n (Digits value))

-- whether a value that is shorter than its column is filled up: in a column of digits only where it is
-- digits, and has some (no number was written where there are none)
abbrev pub may_be_padded : (numeric : Bool) → List ℕ → Bool
may_be_padded false value = true
may_be_padded true [] = false
may_be_padded true (byte ∷ bytes) = list_all is_ascii_digit (byte ∷ bytes)

-- a value that a column takes: one of all its bytes, or of fewer, which is filled up
pub record TakesValue (column : Column) (value : List ℕ) : Type 0 where
  pub are_bytes : AreBytes value
  pub room : length value ≤ column.length
  pub short : length value < column.length → may_be_padded column.numeric value ≡ true

-- ---- the values of a line

-- a column, and its value in a line
pub record ColumnValue : Type 0 where
  pub column : Column
  pub value : List ℕ

abbrev pub columns_of : List ColumnValue → List Column
columns_of values = map (λ of. of.column) values

-- each of the columns has a value that it takes
pub record AreValuesOf (columns : List Column) (values : List ColumnValue) : Type 0 where
  pub columns_are : columns_of values ≡ columns
  pub are_taken : Each (λ of. TakesValue of.column of.value) values

-- the bytes that a value gives the record
abbrev pub padded_value : ColumnValue → List ℕ
padded_value of = padded of.column.numeric of.column.length of.value

-- the line of values in CSV
abbrev pub csv_of : List ColumnValue → List ℕ
csv_of values = csv_line (map (λ of. text_of of.value) values)

-- a value as a member of an object
abbrev pub member_of_value : ColumnValue → Member
member_of_value of = record { name = column_name of.column; value = text_of of.value }

-- the line of values in JSON
abbrev pub json_of : List ColumnValue → List ℕ
json_of values = json_line (map member_of_value values)

-- ---- a line

-- the line is that of values of the columns, and the record is these one behind the other, each filled up
pub record SaysValues (line_of : List ColumnValue → List ℕ) (columns : List Column) (line bytes : List ℕ)
    : Type 0 where
  pub values : List ColumnValue
  pub are_values : AreValuesOf columns values
  pub line_is : line ≡ line_of values
  pub bytes_are : bytes ≡ flat_map padded_value values

-- the line is that of so many bytes or fewer in brackets, and the record is these, filled up with spaces
pub record SaysText (most : ℕ) (line bytes : List ℕ) : Type 0 where
  pub value : List ℕ
  pub are_bytes : AreBytes value
  pub room : length value ≤ most
  pub line_is : line ≡ text_line value
  pub bytes_are : bytes ≡ padded false most value

-- the line says a record of so many bytes
abbrev pub SaysPadded : Form → (most : ℕ) → (line bytes : List ℕ) → Type 0
SaysPadded forms.Text most line bytes = SaysText most line bytes
SaysPadded (forms.Csv columns) most line bytes = SaysValues csv_of columns.items line bytes
SaysPadded (forms.Json columns) most line bytes = SaysValues json_of columns.items line bytes

-- a text begins with a line that says a record, which is the area now
pub record ReadsSaid (Says : (line bytes : List ℕ) → Type 0) (text area_after behind : List ℕ) : Type 0 where
  pub line : List ℕ
  pub text_is : text ≡ line ++ behind
  pub says : Says line area_after
  pub are_bytes : AreBytes area_after

-- a text begins with no line that says a record
abbrev pub SaysNone : (Says : (line bytes : List ℕ) → Type 0) → (text : List ℕ) → Type 0
SaysNone Says text = (line bytes behind : List ℕ) → Says line bytes → text ≡ line ++ behind → ⊥

-- so it is of a line whose values are filled up
abbrev pub ReadsPadded : Form → (text area_after behind : List ℕ) → Type 0
ReadsPadded form text area_after behind =
    ReadsSaid (SaysPadded form (length area_after)) text area_after behind

abbrev pub BeginsWithNoPadded : Form → (text : List ℕ) → (most : ℕ) → Type 0
BeginsWithNoPadded form text most = SaysNone (SaysPadded form most) text

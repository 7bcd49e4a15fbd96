-- A part of a record that is read of a text and filled up, and what is wrong with one. All of this is ours.
use Rattle.std.specs.Prelude.{◌≡◌, ◌⊎◌, ◌<◌, ◌≤◌, ℕ, ◌+◌, Bool, true, false, List, [], ◌∷◌, ◌++◌, length, flat_map, take, drop}
use Rattle.pages.specs.Each.{Each}
use Rattle.record_text.specs.declared.column.Column.{Column}
use Rattle.record_text.specs.declared.form.Form.{Form}
use Rattle.record_text.specs.declared.form.Form.TheVariants.{Text, Csv, Json}
use Rattle.record_text.specs.declared.quoted.Quoting.{Quoting}
use Rattle.record_text.specs.declared.quoted.Quoting.TheVariants.{Doubled, Escaped}
use Rattle.record_text.specs.declared.mistake.ValueMistake.{ValueMistake}
use Rattle.record_text.specs.declared.mistake.ValueMistake.TheVariants.{Short}
use Rattle.record_text.specs.declared.mistake.ColumnMistake.{ColumnMistake}
use Rattle.record_text.specs.declared.mistake.LineMistake.{LineMistake}
use Rattle.record_text.specs.declared.mistake.LineMistake.TheVariants as of_line
use Rattle.record_text.specs.ReadLine.{AreBytes}
use Rattle.record_text.specs.Quoted.{LacksFront, value_text}
use Rattle.record_text.specs.Part.{EndsValue}
use Rattle.record_text.specs.Mistake.{IsTextMistake, IsToldOf, IsValueMistake, is_empty}
use Rattle.record_text.specs.Padded.{padded, may_be_padded, TakesValue, ColumnValue, columns_of, AreValuesOf}
use Rattle.record_text.specs.Padded.{padded_value}

-- ---- what is read

-- values, each as it stands in quotes, and what is behind them
abbrev pub padded_text : Quoting → (is_first : Bool) → List ColumnValue → (behind : List ℕ) → List ℕ
padded_text quoting is_first [] behind = behind
padded_text quoting is_first (of ∷ values) behind =
    value_text quoting is_first of.column.name.bytes of.value (padded_text quoting false values behind)

-- bytes were put into the area at a place, and all others stay
abbrev pub with_bytes_at : ℕ → (bytes area : List ℕ) → List ℕ
with_bytes_at at bytes area = take at area ++ (bytes ++ drop (at + length bytes) area)

-- the value of a column was read and put into its place, filled up; and no other value gives the text
pub record ReadsPaddedValue (quoting : Quoting) (is_first : Bool) (column : Column) (text area area_after behind : List ℕ)
    : Type 0 where
  pub value : List ℕ
  pub is_taken : TakesValue column value
  pub text_is : text ≡ value_text quoting is_first column.name.bytes value behind
  pub area_is : area_after ≡ with_bytes_at column.offset (padded column.numeric column.length value) area
  pub only : (other other_behind : List ℕ) → AreBytes other → length other ≤ column.length
      → EndsValue quoting other_behind
      → text ≡ value_text quoting is_first column.name.bytes other other_behind
      → (other ≡ value) × (other_behind ≡ behind)

-- no value that the column takes gives the text
abbrev pub HasNoPaddedValue : Quoting → (is_first : Bool) → Column → (text : List ℕ) → Type 0
HasNoPaddedValue quoting is_first column text = (value behind : List ℕ) → TakesValue column value
    → EndsValue quoting behind → text ≡ value_text quoting is_first column.name.bytes value behind → ⊥

-- values of columns were read, and are the area now, each filled up; and what is behind them is known
pub record ReadsPaddedValues (quoting : Quoting) (columns : List Column) (text area_after behind : List ℕ)
    : Type 0 where
  pub values : List ColumnValue
  pub are_values : AreValuesOf columns values
  pub text_is : text ≡ padded_text quoting true values behind
  pub area_is : area_after ≡ flat_map padded_value values
  pub only : (others : List ColumnValue) (other_behind : List ℕ) → AreValuesOf columns others
      → EndsValue quoting other_behind → text ≡ padded_text quoting true others other_behind
      → other_behind ≡ behind

-- no values of the columns give the text
abbrev pub HasNoPaddedValues : Quoting → List Column → (text : List ℕ) → Type 0
HasNoPaddedValues quoting columns text = (values : List ColumnValue) (behind : List ℕ)
    → AreValuesOf columns values → EndsValue quoting behind
    → text ≡ padded_text quoting true values behind → ⊥

-- ---- mistakes

-- a text does not begin with the first of two characters; or it does, and the second one is not behind that
abbrev pub LacksOneOf : (first second : ℕ) → (text : List ℕ) → (char : ℕ) → Type 0
LacksOneOf first second text char =
    ((char ≡ first) × LacksFront (λ behind. first ∷ behind) text)
    ⊎ ((char ≡ second) × ((ended : List ℕ) × (text ≡ first ∷ ended)
    × LacksFront (λ behind. second ∷ behind) ended))

-- a value is shorter than its column, and is not filled up
pub record IsNotPadded (quoting : Quoting) (is_first : Bool) (column : Column) (text : List ℕ)
    (mistake : ValueMistake) : Type 0 where
  pub value : List ℕ
  pub behind : List ℕ
  pub are_bytes : AreBytes value
  pub text_is : text ≡ value_text quoting is_first column.name.bytes value behind
  pub short : length value < column.length
  pub not_padded : may_be_padded column.numeric value ≡ false
  pub mistake_is : mistake ≡ Short (length value)

-- what is wrong with the value of a column
abbrev pub IsPaddedValueMistake : Quoting → (is_first : Bool) → Column → (text : List ℕ) → ValueMistake → Type 0
IsPaddedValueMistake quoting is_first column text mistake =
    IsValueMistake quoting is_first column.name.bytes text column.length mistake
    ⊎ IsNotPadded quoting is_first column text mistake

-- values of the columns before it stand there, and that of the column has this mistake
pub record IsWrongPadded (quoting : Quoting) (columns : List Column) (text : List ℕ) (told : ColumnMistake)
    : Type 0 where
  pub before : List ColumnValue
  pub column : Column
  pub after : List Column
  pub rest : List ℕ
  pub columns_are : columns ≡ columns_of before ++ column ∷ after
  pub are_taken : Each (λ of. TakesValue of.column of.value) before
  pub text_is : text ≡ padded_text quoting true before rest
  pub is_told : IsToldOf (columns_of before) column told
  pub wrong : IsPaddedValueMistake quoting (is_empty (columns_of before)) column rest told.mistake

-- values of all columns stand there, and the line does not end behind them: this character is lacking
pub record LacksPaddedEnding (quoting : Quoting) (columns : List Column) (text ending : List ℕ) (char : ℕ)
    : Type 0 where
  pub values : List ColumnValue
  pub are_values : AreValuesOf columns values
  pub passed : List ℕ
  pub left : List ℕ
  pub rest : List ℕ
  pub ending_is : ending ≡ passed ++ char ∷ left
  pub text_is : text ≡ padded_text quoting true values (passed ++ rest)
  pub lacks : LacksFront (λ behind. char ∷ behind) rest

-- what is wrong with the values of a line, and what stands behind them: never that they are too few bytes
abbrev pub IsPaddedValuesMistake : Quoting → List Column → (text ending : List ℕ) → LineMistake → Type 0
IsPaddedValuesMistake quoting columns text ending of_line.Names = ⊥
IsPaddedValuesMistake quoting columns text ending (of_line.Opening char) = ⊥
IsPaddedValuesMistake quoting columns text ending (of_line.Byte bytes stray) = ⊥
IsPaddedValuesMistake quoting columns text ending (of_line.Length bytes shortest longest) = ⊥
IsPaddedValuesMistake quoting columns text ending (of_line.Column told) =
    IsWrongPadded quoting columns text told
IsPaddedValuesMistake quoting columns text ending (of_line.Ending char) =
    LacksPaddedEnding quoting columns text ending char

-- what is wrong with a line of JSON
abbrev pub IsPaddedJsonMistake : List Column → (text : List ℕ) → LineMistake → Type 0
IsPaddedJsonMistake columns text mistake =
    ((mistake ≡ of_line.Opening 123) × LacksFront (λ behind. 123 ∷ behind) text)
    ⊎ ((opened : List ℕ) × (text ≡ 123 ∷ opened)
    × IsPaddedValuesMistake Escaped columns opened (125 ∷ 10 ∷ []) mistake)

-- what is wrong with the line at the front of a text, which is to say a record of so many bytes
abbrev pub IsPaddedMistake : Form → (text : List ℕ) → (least most : ℕ) → LineMistake → Type 0
IsPaddedMistake Text text least most mistake = IsTextMistake text least most mistake
IsPaddedMistake (Csv columns) text least most mistake =
    IsPaddedValuesMistake Doubled columns.items text (13 ∷ 10 ∷ []) mistake
IsPaddedMistake (Json columns) text least most mistake = IsPaddedJsonMistake columns.items text mistake

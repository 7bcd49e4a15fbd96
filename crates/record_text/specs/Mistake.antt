-- Why the line at the front of a text is that of no record. All of this is ours.
use Rattle.std.specs.Prelude.{◌≡◌, ◌⊎◌, ◌<◌, ◌≤◌, ℕ, ◌+◌, ◌==◌, Bool, true, false, List, [], ◌∷◌, ◌++◌, length, map, flat_map}
use Rattle.std.specs.Prelude.{if◌then◌else◌}
use Rattle.deck_runner.specs.Line.{shown_byte}
use Rattle.record_text.specs.declared.column.Column.{Column}
use Rattle.record_text.specs.declared.form.Form.{Form}
use Rattle.record_text.specs.declared.form.Form.TheVariants.{Text, Csv, Json}
use Rattle.record_text.specs.Lines.{text_line}
use Rattle.record_text.specs.Parts.{part_of_column}
use Rattle.record_text.specs.ReadLine.{AreBytes}
use Rattle.record_text.specs.Whole.{AreTiled}
use Rattle.record_text.specs.Quoted.{inside, BeginsWithNoByte, LacksFront, behind_comma, behind_label, value_front}
use Rattle.record_text.specs.Quoted.{values_text}
use Rattle.record_text.specs.declared.counted.Counted.{Counted}
use Rattle.record_text.specs.declared.quoted.Quoting.{Quoting}
use Rattle.record_text.specs.declared.quoted.Quoting.TheVariants.{Doubled, Escaped}
use Rattle.record_text.specs.declared.mistake.Stray.{Stray}
use Rattle.record_text.specs.declared.mistake.Stray.TheVariants.{End, Backslash, Char}
use Rattle.record_text.specs.declared.mistake.ValueMistake.{ValueMistake}
use Rattle.record_text.specs.declared.mistake.ValueMistake.TheVariants as of_value
use Rattle.record_text.specs.declared.mistake.ColumnMistake.{ColumnMistake}
use Rattle.record_text.specs.declared.mistake.LineMistake.{LineMistake}
use Rattle.record_text.specs.declared.mistake.LineMistake.TheVariants as of_line

-- what a text begins with: the end of a line, a backslash, or another character
abbrev pub stray_of : List ℕ → Stray
stray_of [] = End
stray_of (char ∷ rest) = if char == 10 then End else if char == 92 then Backslash else Char char

-- ---- the value of a column

-- so many bytes stand in quotes, one behind the other, and no other one behind them
pub record AreCounted (quoting : Quoting) (text : List ℕ) (count : ℕ) (behind : List ℕ) : Type 0 where
  pub bytes : List ℕ
  pub are_bytes : AreBytes bytes
  pub count_is : count ≡ length bytes
  pub text_is : text ≡ inside quoting bytes ++ behind
  pub none : BeginsWithNoByte quoting behind

-- bytes were counted on, from so many
pub record CountsOn (quoting : Quoting) (text : List ℕ) (before : ℕ) (counted : Counted) : Type 0 where
  pub more : ℕ
  pub count_is : counted.bytes ≡ before + more
  pub are : AreCounted quoting text more counted.behind.now

-- a value begins, and behind so many of its bytes it neither goes on nor ends
pub record IsStrayValue (quoting : Quoting) (begins : List ℕ → List ℕ) (text : List ℕ) (bytes : ℕ) (stray : Stray)
    : Type 0 where
  pub opened : List ℕ
  pub behind : List ℕ
  pub front : text ≡ begins opened
  pub value : AreCounted quoting opened bytes behind
  pub no_quote : LacksFront (λ rest. 34 ∷ rest) behind
  pub stray_is : stray ≡ stray_of behind

-- a value has so many bytes, which are more than these
pub record IsLongValue (quoting : Quoting) (begins : List ℕ → List ℕ) (text : List ℕ) (most bytes : ℕ) : Type 0 where
  pub opened : List ℕ
  pub behind : List ℕ
  pub front : text ≡ begins opened
  pub value : AreCounted quoting opened bytes (34 ∷ behind)
  pub more : most < bytes

-- what is wrong with what stands behind so many bytes of a value: so many stand there, and then no quote; or
-- they are more
abbrev pub IsEndMistake : Quoting → (text : List ℕ) → (read : ℕ) → ValueMistake → Type 0
IsEndMistake quoting text read of_value.Comma = ⊥
IsEndMistake quoting text read of_value.Name = ⊥
IsEndMistake quoting text read of_value.Quote = ⊥
IsEndMistake quoting text read (of_value.Byte bytes stray) = (more : ℕ) × (behind : List ℕ)
    × (bytes ≡ read + more) × AreCounted quoting text more behind × LacksFront (λ rest. 34 ∷ rest) behind
    × (stray ≡ stray_of behind)
IsEndMistake quoting text read (of_value.Long bytes) = (more : ℕ) × (behind : List ℕ)
    × (bytes ≡ read + more) × AreCounted quoting text more (34 ∷ behind) × (0 < more)
IsEndMistake quoting text read (of_value.Short bytes) = ⊥

-- what is wrong with the value at the front of a text, which has room for so many bytes
abbrev pub IsValueMistake : Quoting → (is_first : Bool) → (name text : List ℕ) → (most : ℕ) → ValueMistake → Type 0
IsValueMistake quoting is_first name text most of_value.Comma = LacksFront (behind_comma is_first) text
IsValueMistake quoting is_first name text most of_value.Name =
    (label : List ℕ) × (text ≡ behind_comma is_first label) × LacksFront (behind_label quoting name) label
IsValueMistake quoting is_first name text most of_value.Quote =
    (value : List ℕ) × (text ≡ behind_comma is_first (behind_label quoting name value))
    × LacksFront (λ behind. 34 ∷ behind) value
IsValueMistake quoting is_first name text most (of_value.Byte bytes stray) =
    IsStrayValue quoting (value_front quoting is_first name) text bytes stray
IsValueMistake quoting is_first name text most (of_value.Long bytes) =
    IsLongValue quoting (value_front quoting is_first name) text most bytes
IsValueMistake quoting is_first name text most (of_value.Short bytes) = ⊥

-- ---- the columns of a line

-- the column that is told of, behind these and before those
pub record IsToldOf (before : List Column) (column : Column) (told : ColumnMistake) : Type 0 where
  pub number : told.number ≡ length before + 1
  pub name : told.name ≡ column.name
  pub wanted : told.wanted ≡ column.length

-- the bytes of these columns stand at the front of a text, and these columns are left
pub record StandBefore (quoting : Quoting) (columns : List Column) (text : List ℕ) (before left : List Column)
    (bytes rest : List ℕ) : Type 0 where
  pub columns_are : columns ≡ before ++ left
  pub text_is : text ≡ values_text quoting true before bytes rest

abbrev pub is_empty : List Column → Bool
is_empty [] = true
is_empty (column ∷ columns) = false

-- the values of the columns before it stand there, and that of the column has this mistake
pub record IsWrongValue (quoting : Quoting) (columns : List Column) (text : List ℕ) (told : ColumnMistake) : Type 0 where
  pub before : List Column
  pub column : Column
  pub after : List Column
  pub bytes : List ℕ
  pub rest : List ℕ
  pub stand : StandBefore quoting columns text before (column ∷ after) bytes rest
  pub is_told : IsToldOf before column told
  pub wrong : IsValueMistake quoting (is_empty before) column.name.bytes rest column.length told.mistake

-- columns have room for more than so many bytes
pub record EndsWithin (columns : List Column) (length_read : ℕ) : Type 0 where
  pub end : ℕ
  pub tiled : AreTiled 0 (map part_of_column columns) end
  pub within : length_read < end

-- a record of so many bytes ends in the column that is told of: it has fewer than it wants
pub record EndsInColumn (columns : List Column) (length_read : ℕ) (told : ColumnMistake) : Type 0 where
  pub before : List Column
  pub column : Column
  pub after : List Column
  pub columns_are : columns ≡ before ++ column ∷ after
  pub is_told : IsToldOf before column told
  pub bytes : ℕ
  pub mistake : told.mistake ≡ of_value.Short bytes
  pub length_is : length_read ≡ column.offset + bytes
  pub fewer : bytes < column.length

-- the bytes of a record end in the column that is told of, and the value of one behind it has some, too
pub record IsShortValue (quoting : Quoting) (columns : List Column) (text : List ℕ) (told : ColumnMistake) : Type 0 where
  pub before : List Column
  pub column : Column
  pub after : List Column
  pub bytes : List ℕ
  pub rest : List ℕ
  pub stand : StandBefore quoting columns text before (column ∷ after) bytes rest
  pub ends : EndsInColumn before (length bytes) told
  pub more : ℕ
  pub follows : IsLongValue quoting (value_front quoting false column.name.bytes) rest 0 more

-- what is wrong with the values of columns
abbrev pub IsColumnMistake : Quoting → List Column → (text : List ℕ) → ColumnMistake → Type 0
IsColumnMistake quoting columns text told =
    IsWrongValue quoting columns text told ⊎ IsShortValue quoting columns text told

-- the values of all columns stand there: so many bytes, which are too few
pub record HasTooFew (quoting : Quoting) (columns : List Column) (text : List ℕ) (least count : ℕ) : Type 0 where
  pub bytes : List ℕ
  pub rest : List ℕ
  pub text_is : text ≡ values_text quoting true columns bytes rest
  pub count_is : count ≡ length bytes
  pub short : count < least

-- so, and they end in the column that is told of
pub record IsShortRecord (quoting : Quoting) (columns : List Column) (text : List ℕ) (least : ℕ)
    (told : ColumnMistake) : Type 0 where
  pub count : ℕ
  pub few : HasTooFew quoting columns text least count
  pub ends : EndsInColumn columns count told

-- the values of all columns stand there, and the line does not end behind them: this character is lacking
pub record LacksEnding (quoting : Quoting) (columns : List Column) (text ending : List ℕ) (char : ℕ) : Type 0 where
  pub bytes : List ℕ
  pub passed : List ℕ
  pub left : List ℕ
  pub rest : List ℕ
  pub ending_is : ending ≡ passed ++ char ∷ left
  pub text_is : text ≡ values_text quoting true columns bytes (passed ++ rest)
  pub lacks : LacksFront (λ behind. char ∷ behind) rest

-- what is wrong with the values of a line, and what stands behind them
abbrev pub IsValuesMistake : Quoting → List Column → (text ending : List ℕ) → (least most : ℕ) → LineMistake → Type 0
IsValuesMistake quoting columns text ending least most of_line.Names = ⊥
IsValuesMistake quoting columns text ending least most (of_line.Opening char) = ⊥
IsValuesMistake quoting columns text ending least most (of_line.Byte bytes stray) = ⊥
IsValuesMistake quoting columns text ending least most (of_line.Length bytes shortest longest) =
    (shortest ≡ least) × (longest ≡ most) × HasTooFew quoting columns text least bytes
IsValuesMistake quoting columns text ending least most (of_line.Column told) =
    IsColumnMistake quoting columns text told ⊎ IsShortRecord quoting columns text least told
IsValuesMistake quoting columns text ending least most (of_line.Ending char) =
    LacksEnding quoting columns text ending char

-- ---- a record in brackets

-- neither a byte of a record in brackets stands here nor its end
pub record IsStrayRest (rest : List ℕ) (stray : Stray) : Type 0 where
  pub none : (byte : ℕ) (behind : List ℕ) → byte < 256 → rest ≡ shown_byte byte ++ behind → ⊥
  pub no_end : LacksFront (λ behind. 93 ∷ 10 ∷ behind) rest
  pub stray_is : stray ≡ stray_of rest

-- behind so many bytes of a record in brackets it neither goes on nor ends
pub record IsStrayInText (text : List ℕ) (count : ℕ) (stray : Stray) : Type 0 where
  pub bytes : List ℕ
  pub rest : List ℕ
  pub are_bytes : AreBytes bytes
  pub count_is : count ≡ length bytes
  pub text_is : text ≡ 91 ∷ (flat_map shown_byte bytes ++ rest)
  pub stray_is : IsStrayRest rest stray

-- the record in brackets has so many bytes, which are too few or too many
pub record HasWrongLength (text : List ℕ) (least most count : ℕ) : Type 0 where
  pub bytes : List ℕ
  pub behind : List ℕ
  pub are_bytes : AreBytes bytes
  pub count_is : count ≡ length bytes
  pub text_is : text ≡ text_line bytes ++ behind
  pub wrong : (count < least) ⊎ (most < count)

-- what is wrong with a line of text
abbrev pub IsTextMistake : (text : List ℕ) → (least most : ℕ) → LineMistake → Type 0
IsTextMistake text least most of_line.Names = ⊥
IsTextMistake text least most (of_line.Opening char) = (char ≡ 91) × LacksFront (λ behind. 91 ∷ behind) text
IsTextMistake text least most (of_line.Byte bytes stray) = IsStrayInText text bytes stray
IsTextMistake text least most (of_line.Length bytes shortest longest) =
    (shortest ≡ least) × (longest ≡ most) × HasWrongLength text least most bytes
IsTextMistake text least most (of_line.Column told) = ⊥
IsTextMistake text least most (of_line.Ending char) = ⊥

-- ---- a line

-- what is wrong with a line of JSON
abbrev pub IsJsonMistake : List Column → (text : List ℕ) → (least most : ℕ) → LineMistake → Type 0
IsJsonMistake columns text least most mistake =
    ((mistake ≡ of_line.Opening 123) × LacksFront (λ behind. 123 ∷ behind) text)
    ⊎ ((opened : List ℕ) × (text ≡ 123 ∷ opened)
    × IsValuesMistake Escaped columns opened (125 ∷ 10 ∷ []) least most mistake)

-- what is wrong with the line at the front of a text, which is to be that of a record of so many bytes
abbrev pub IsLineMistake : Form → (text : List ℕ) → (least most : ℕ) → LineMistake → Type 0
IsLineMistake Text text least most mistake = IsTextMistake text least most mistake
IsLineMistake (Csv columns) text least most mistake =
    IsValuesMistake Doubled columns.items text (13 ∷ 10 ∷ []) least most mistake
IsLineMistake (Json columns) text least most mistake = IsJsonMistake columns.items text least most mistake

-- ---- what the parts of the reader tell

-- this is the first column of those that are left, of columns that stand one behind the other
pub record IsNext (columns : List Column) (column : Column) (after : List Column) : Type 0 where
  pub before : List Column
  pub columns_are : columns ≡ before ++ column ∷ after
  pub end : ℕ
  pub tiled : AreTiled 0 (map part_of_column columns) end

-- a mistake is told of the column: a value that is not to have any bytes, since the record ended before it,
-- is told of the column in which that ended
pub record TellsMistake (columns : List Column) (column : Column) (after : List Column) (at : ℕ)
    (mistake : ValueMistake) (told : ColumnMistake) : Type 0 where
  pub before : List Column
  pub columns_are : columns ≡ before ++ column ∷ after
  pub is : (IsToldOf before column told × (told.mistake ≡ mistake)
      × ((bytes : ℕ) → mistake ≡ of_value.Long bytes → column.offset ≤ at))
      ⊎ ((bytes : ℕ) × (mistake ≡ of_value.Long bytes) × (at < column.offset) × EndsInColumn before at told)

-- a record of so many bytes is told as too short: of the column in which it ends, if there is one
abbrev pub IsToldShort : List Column → (bytes least most : ℕ) → LineMistake → Type 0
IsToldShort columns bytes least most mistake =
    ((told : ColumnMistake) × (mistake ≡ of_line.Column told) × EndsInColumn columns bytes told)
    ⊎ (mistake ≡ of_line.Length bytes least most)

-- so it is in a form
abbrev pub TellsShort : Form → (bytes least most : ℕ) → LineMistake → Type 0
TellsShort Text bytes least most mistake = mistake ≡ of_line.Length bytes least most
TellsShort (Csv columns) bytes least most mistake = IsToldShort columns.items bytes least most mistake
TellsShort (Json columns) bytes least most mistake = IsToldShort columns.items bytes least most mistake

-- more bytes of a record in brackets stand at the front of a text, of which so many were read, and what is
-- behind them is no further byte
pub record RecordGoesOn (text : List ℕ) (read bytes : ℕ) (behind : List ℕ) : Type 0 where
  pub more : List ℕ
  pub are_bytes : AreBytes more
  pub count_is : bytes ≡ read + length more
  pub text_is : text ≡ flat_map shown_byte more ++ behind

-- a record in brackets goes on behind so many bytes, up to its end, or to what is neither that nor a byte
abbrev pub IsLongText : (text : List ℕ) → (read least most : ℕ) → LineMistake → Type 0
IsLongText text read least most of_line.Names = ⊥
IsLongText text read least most (of_line.Opening char) = ⊥
IsLongText text read least most (of_line.Byte bytes stray) =
    (rest : List ℕ) × RecordGoesOn text read bytes rest × IsStrayRest rest stray
IsLongText text read least most (of_line.Length bytes shortest longest) =
    (shortest ≡ least) × (longest ≡ most) × ((behind : List ℕ) × RecordGoesOn text read bytes (93 ∷ 10 ∷ behind))
IsLongText text read least most (of_line.Column told) = ⊥
IsLongText text read least most (of_line.Ending char) = ⊥

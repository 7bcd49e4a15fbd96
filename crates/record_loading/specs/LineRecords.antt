-- The records of the first lines of a text, read one after another. All of this is ours.
use Rattle.std.specs.Prelude.{◌≡◌, ◌<◌, ℕ, List, [], ◌∷◌, length, Option, Some, None, ⊤, refl}
use Rattle.std.proofs.Common.{◌∙◌}
use Rattle.record_layout.specs.Schema.{Schema}
use Rattle.record_text.specs.declared.mistake.LineMistake.{LineMistake}
use Rattle.record_loading.specs.LineForm.{LineForm, BeginsWith, BeginsWithNone, HasMistake}
use Rattle.record_loading.specs.Passing.{CanBeRecord}

-- the text begins with the lines of these records, one after another, which a file of this schema can have;
-- the rest comes after them
abbrev pub BeginsWithRecords : Schema → LineForm → (text : List ℕ) → List (List ℕ) → (rest : List ℕ) → Type 0
BeginsWithRecords schema form text [] rest = rest ≡ text
BeginsWithRecords schema form text (bytes ∷ records) rest = (after : List ℕ)
    × BeginsWith form.pad form.form schema.greatest text bytes after
    × CanBeRecord schema bytes
    × BeginsWithRecords schema form after records rest

-- the text begins with a line that is the line of no record of the file, and has this mistake
pub record IsWrongLine (schema : Schema) (form : LineForm) (text : List ℕ) (mistake : LineMistake) : Type 0 where
  pub some : 0 < length text
  pub none : BeginsWithNone form.pad form.form text schema.least schema.greatest
  pub wrong : HasMistake form.pad form.form text schema.least schema.greatest mistake

-- so, where one was met
abbrev pub IsWrongIfMet : Schema → LineForm → (text : List ℕ) → Option LineMistake → Type 0
IsWrongIfMet schema form text None = ⊤
IsWrongIfMet schema form text (Some mistake) = IsWrongLine schema form text mistake

-- where the reading of lines stands: the records that were given, the text that is left, and the mistake of
-- its first line, where that was found to be no record's
pub record LineReading : Type 0 where
  pub schema : Schema
  pub form : LineForm
  pub given : List (List ℕ)
  pub rest : List ℕ
  pub mistake : Option LineMistake

-- the records are those of the first of these lines
pub record HasReadLines (lines : List ℕ) (now : LineReading) : Type 0 where
  pub begins : BeginsWithRecords now.schema now.form lines now.given now.rest
  pub wrong : IsWrongIfMet now.schema now.form now.rest now.mistake

-- no more records come: no line is left, but for one that was found to be no record's
abbrev pub HasEndedLines : LineReading → Type 0
HasEndedLines now = now.mistake ≡ None → now.rest ≡ []

-- lines were read on
pub record ReadsLinesOn (old new : LineReading) : Type 0 where
  pub schema_is : new.schema ≡ old.schema
  pub form_is : new.form ≡ old.form
  pub reads : (lines : List ℕ) → HasReadLines lines old → HasReadLines lines new

pub reads_no_line : (a : LineReading) → ReadsLinesOn a a
reads_no_line a = record { schema_is = refl; form_is = refl; reads = λ lines is. is }

pub reads_lines_further : (a b c : LineReading) → ReadsLinesOn a b → ReadsLinesOn b c → ReadsLinesOn a c
reads_lines_further a b c ab bc = record {
  schema_is = bc.schema_is ∙ ab.schema_is;
  form_is = bc.form_is ∙ ab.form_is;
  reads = λ lines is. bc.reads lines (ab.reads lines is);
}

-- How the lines of a text are read: each as exactly the line of a record, or with its values filled up. All of
-- this is ours.
use Rattle.std.specs.Prelude.{◌≡◌, ◌≤◌, ℕ, Bool, true, false, List, ◌++◌, length, take, drop}
use Rattle.record_text.specs.declared.form.Form.{Form}
use Rattle.record_text.specs.Lines.{line_in}
use Rattle.record_text.specs.ReadLine.{AreBytes, BeginsWithNoRecord}
use Rattle.record_text.specs.Padded.{SaysPadded, BeginsWithNoPadded}
use Rattle.record_text.specs.Mistake.{IsLineMistake}
use Rattle.record_text.specs.PaddedPart.{IsPaddedMistake}
use Rattle.record_text.specs.declared.line_reading.RecordLine.{RecordLine}
use Rattle.record_text.specs.declared.mistake.LineMistake.{LineMistake}
use Rattle.record_loading.specs.declared.options.LoadOptions.{LoadOptions}

-- a form, and whether values that are shorter than their columns are filled up
pub record LineForm : Type 0 where
  pub form : Form
  pub pad : Bool

-- so a load reads its lines
abbrev pub line_form : Form → LoadOptions → LineForm
line_form form options = record { form = form; pad = options.pad }

-- a text begins with the line of a record of a file whose greatest record has so many bytes
abbrev pub BeginsWith : (pad : Bool) → Form → (greatest : ℕ) → (text bytes behind : List ℕ) → Type 0
BeginsWith false form greatest text bytes behind = text ≡ line_in form bytes ++ behind
BeginsWith true form greatest text bytes behind =
    (line : List ℕ) × (text ≡ line ++ behind) × SaysPadded form greatest line bytes

-- a text begins with the line of no record that has from so many to so many bytes
abbrev pub BeginsWithNone : (pad : Bool) → Form → (text : List ℕ) → (least greatest : ℕ) → Type 0
BeginsWithNone false form text least greatest = BeginsWithNoRecord form text least greatest
BeginsWithNone true form text least greatest = BeginsWithNoPadded form text greatest

-- what is wrong with such a line
abbrev pub HasMistake : (pad : Bool) → Form → (text : List ℕ) → (least greatest : ℕ) → LineMistake → Type 0
HasMistake false form text least greatest mistake = IsLineMistake form text least greatest mistake
HasMistake true form text least greatest mistake = IsPaddedMistake form text least greatest mistake

-- the record of n bytes, and at least so many, whose line a text begins with is in the first bytes of the area;
-- the others are as they were
pub record ReadsLineOf (form : LineForm) (text : List ℕ) (least : ℕ) (area area_after : List ℕ) (n : ℕ)
    (behind : List ℕ) : Type 0 where
  pub long : least ≤ n
  pub within : n ≤ length area
  pub are_bytes : AreBytes (take n area_after)
  pub begins : BeginsWith form.pad form.form (length area) text (take n area_after) behind
  pub rest : drop n area_after ≡ drop n area

-- so, up to where the line tells
abbrev pub ReadsLineUpTo : LineForm → (text : List ℕ) → (least : ℕ) → (area area_after : List ℕ) → RecordLine → Type 0
ReadsLineUpTo form text least area area_after line =
    ReadsLineOf form text least area area_after line.length line.behind.now

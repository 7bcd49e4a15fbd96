-- The record whose line a text begins with, in a form.
use Rattle.std.specs.Prelude.{◌≡◌, ◌<◌, ◌≤◌, ℕ, List, ◌++◌, length, take, drop}
use Rattle.pages.specs.Each.{Each}
use Rattle.record_text.specs.declared.form.Form.{Form}
use Rattle.record_text.specs.declared.line_reading.RecordLine.{RecordLine}
use Rattle.record_text.specs.Lines.{line_in}

-- the numbers are bytes
abbrev pub AreBytes : List ℕ → Type 0
AreBytes = Each (λ byte. byte < 256)

-- a text begins with the line of a record of n bytes, which is in the first bytes of the area; the
-- others are as they were
pub record ReadsLine (form : Form) (text area area_after : List ℕ) (n : ℕ) (behind : List ℕ) : Type 0 where
  pub within : n ≤ length area
  pub bytes : AreBytes (take n area_after)
  pub line : text ≡ line_in form (take n area_after) ++ behind
  pub rest : drop n area_after ≡ drop n area

-- a text begins with the line of no record that has at most so many bytes
abbrev pub BeginsWithNoLine : Form → List ℕ → ℕ → Type 0
BeginsWithNoLine form text most =
    (bytes behind : List ℕ) → AreBytes bytes → length bytes ≤ most → text ≡ line_in form bytes ++ behind → ⊥

-- a record that has at least so many bytes was read so
pub record ReadsRecord (form : Form) (text : List ℕ) (least : ℕ) (area area_after : List ℕ) (n : ℕ)
    (behind : List ℕ) : Type 0 where
  pub long : least ≤ n
  pub line : ReadsLine form text area area_after n behind

-- so, up to where the line tells
abbrev pub ReadsRecordUpTo : Form → (text : List ℕ) → (least : ℕ) → (area area_after : List ℕ) → RecordLine → Type 0
ReadsRecordUpTo form text least area area_after line =
    ReadsRecord form text least area area_after line.length line.behind.now

-- a text begins with the line of no record that has from so many to so many bytes
abbrev pub BeginsWithNoRecord : Form → List ℕ → (least greatest : ℕ) → Type 0
BeginsWithNoRecord form text least greatest =
    (bytes behind : List ℕ) → AreBytes bytes → least ≤ length bytes → length bytes ≤ greatest
    → text ≡ line_in form bytes ++ behind → ⊥

-- The mistake in a line, by its form.
use Rattle.std.proofs.Common.{◌≡◌, ◌<◌, ℕ, true, List, [], ◌∷◌, length, inl, inr, refl, sym, ap, ◌∙◌, subst, arith}
use Rattle.std.specs.Prelude.{Result, Ok, Err, IfErr}
use Rattle.record_text.specs.declared.column.Column.{Column}
use Rattle.record_text.specs.declared.form.Form.{Form}
use Rattle.record_text.specs.declared.form.Form.TheVariants.{Text, Csv, Json}
use Rattle.record_text.specs.declared.quoted.Quoting.{Quoting}
use Rattle.record_text.specs.declared.quoted.Quoting.TheVariants.{Doubled, Escaped}
use Rattle.record_text.specs.declared.line_reading.RecordLine.{RecordLine}
use Rattle.record_text.specs.declared.mistake.LineMistake.{LineMistake}
use Rattle.record_text.specs.Whole.{IsWholeForm}
use Rattle.record_text.specs.Quoted.{values_text, LacksFront}
use Rattle.record_text.specs.Part.{ReadsPart, Anything, EndsValue, line_text}
use Rattle.record_text.specs.Mistake.{IsTextMistake, IsValuesMistake, IsLineMistake, HasTooFew, IsToldShort, TellsShort, LacksEnding}
use Rattle.record_text.proofs.LineLemmas.{csv_is, json_is}

-- what was answered of a line of text
pub text_told : (form : Form) (result : Result RecordLine LineMistake) (text : List ℕ) (least most : ℕ) → form ≡ Text → IfErr result (IsTextMistake text least most) → IfErr result (IsLineMistake form text least most)
text_told form (Ok line) text least most is told = tt
text_told form (Err mistake) text least most is told = subst (λ (f : Form). IsLineMistake f text least most mistake) (sym is) told

-- what was answered, and what that tells
pub told_by : (Told Wanted : LineMistake → Type 0) (result : Result RecordLine LineMistake) → ((mistake : LineMistake) → Told mistake → Wanted mistake) → IfErr result Told → IfErr result Wanted
told_by Told Wanted (Ok line) tells told = tt
told_by Told Wanted (Err mistake) tells told = tells mistake told

-- ---- behind the last value

module _ (quoting : Quoting) (columns : List Column) (text area area_now : List ℕ) (at : ℕ) (behind : List ℕ)
    (part : ReadsPart (values_text quoting true columns) (EndsValue quoting) text area 0 (length area) area_now at behind) (first second : ℕ) where
  pub lacks_first : LacksFront (λ rest. first ∷ rest) behind → LacksEnding quoting columns text (first ∷ second ∷ []) first
  lacks_first lacks = record { bytes = part.bytes; passed = []; left = second ∷ []; rest = behind; ending_is = refl; text_is = part.text_is; lacks = lacks }

  pub lacks_second : (ended : List ℕ) → behind ≡ first ∷ ended → LacksFront (λ rest. second ∷ rest) ended → LacksEnding quoting columns text (first ∷ second ∷ []) second
  lacks_second ended is lacks = record {
    bytes = part.bytes;
    passed = first ∷ [];
    left = [];
    rest = ended;
    ending_is = refl;
    text_is = part.text_is ∙ ap (values_text quoting true columns part.bytes) is;
    lacks = lacks;
  }

-- ---- a record that is too short

values_short : (quoting : Quoting) (columns : List Column) (text ending : List ℕ) (least most n : ℕ) → HasTooFew quoting columns text least n → (mistake : LineMistake) → IsToldShort columns n least most mistake
    → IsValuesMistake quoting columns text ending least most mistake
values_short quoting columns text ending least most n few mistake (inl (told, is, ends)) =
    subst (IsValuesMistake quoting columns text ending least most) (sym is) (inr (record { count = n; few = few; ends = ends }))
values_short quoting columns text ending least most n few mistake (inr is) = subst (IsValuesMistake quoting columns text ending least most) (sym is) (refl, refl, few)

pub short_line : (form : Form) (text area area_now : List ℕ) (n : ℕ) (behind : List ℕ) (least : ℕ) → IsWholeForm form (length area) → ReadsPart (line_text form) Anything text area 0 (length area) area_now n behind → n < least
    → (mistake : LineMistake) → TellsShort form n least (length area) mistake → IsLineMistake form text least (length area) mistake
short_line Text text area area_now n behind least whole read short mistake is =
    subst (IsTextMistake text least (length area)) (sym is) (
      refl,
      refl,
      record { bytes = read.bytes; behind = behind; are_bytes = read.are_bytes; count_is = (let place = read.at_is in omega (arith, place)); text_is = read.text_is; wrong = inl short },
    )
short_line (Csv columns) text area area_now n behind least whole read short mistake is =
    values_short Doubled columns.items text (13 ∷ 10 ∷ []) least (length area) n (record {
      bytes = read.bytes;
      rest = 13 ∷ 10 ∷ behind;
      text_is = read.text_is ∙ csv_is read.bytes columns.items (length area) whole behind;
      count_is = (let place = read.at_is in omega (arith, place));
      short = short;
    }) mistake is
short_line (Json columns) text area area_now n behind least whole read short mistake is =
    let opened = values_text Escaped true columns.items read.bytes (125 ∷ 10 ∷ behind) in
    inr (
      opened,
      read.text_is ∙ json_is read.bytes columns.items (length area) whole behind,
      values_short Escaped columns.items opened (125 ∷ 10 ∷ []) least (length area) n (record {
        bytes = read.bytes;
        rest = 125 ∷ 10 ∷ behind;
        text_is = refl;
        count_is = (let place = read.at_is in omega (arith, place));
        short = short;
      }) mistake is,
    )

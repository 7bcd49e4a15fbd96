use Rattle.std.proofs.Common.{ℕ, List, length, sym, subst}
use Rattle.record_text.specs.declared.column.Column.{Column}
use Rattle.record_text.specs.declared.form.Form.{Form}
use Rattle.record_text.specs.Mistake.{IsJsonMistake, IsLineMistake}
use Rattle.record_text.proofs.TextReadingLemmas.{text_parts}
use Rattle.record_text.proofs.FormLemmas.{text_told, told_by}
use Rattle.record_text.proofs.line_reading.read_line.Goals as goal

pub returns-in-Text-clause-read : goal.returns-in-Text-clause-read
returns-in-Text-clause-read c = text_parts c.args.form.now c.read_text.result c.args.text.now c.args.area.now c.read_text.new.area c.in-Text.is c.read_text.auto.area c.read_text.ensures.read

pub returns-in-Text-clause-mistake : goal.returns-in-Text-clause-mistake
returns-in-Text-clause-mistake c = text_told c.args.form.now c.read_text.result c.args.text.now c.args.least _ c.in-Text.is c.read_text.ensures.mistake

pub returns-in-Json-clause-mistake : goal.returns-in-Json-clause-mistake
returns-in-Json-clause-mistake c =
    let text = c.args.text.now in
    let least = c.args.least in
    let most = length c.args.area.now in
    told_by (λ mistake. (shortest : ℕ) → IsJsonMistake c.deref-in-Json.result.now text shortest most mistake) (IsLineMistake c.args.form.now text least most) c.read_json.result
    (λ mistake told.
    subst (λ (f : Form). IsLineMistake f text least most mistake) (sym c.in-Json.is)
    (subst (λ (l : List Column). IsJsonMistake l text least most mistake) c.deref-in-Json.ensures.value (told least)))
    c.read_json.ensures.mistake

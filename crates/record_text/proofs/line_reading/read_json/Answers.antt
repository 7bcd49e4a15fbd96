use Rattle.std.proofs.Common.{refl, sym, ap, ◌∷◌, ◌∙◌, List, ℕ, inl, inr}
use Rattle.record_text.specs.declared.quoted.Quoting.TheVariants.{Escaped}
use Rattle.record_text.proofs.LineLemmas.{no_json, no_json_end, json_part}
use Rattle.record_text.proofs.FormLemmas.{lacks_first, lacks_second}
use Rattle.record_text.proofs.NameLemmas.{behind_one}
use Rattle.record_text.proofs.line_reading.read_json.Goals as goal

pub returns-in-Err-clause-none : goal.returns-in-Err-clause-none
returns-in-Err-clause-none c =
    no_json c.args.columns.now c.args.text.now c.args.area.now c.requires.whole c.in-Some.opened.now c.in-Some.ensures.some c.in-Err.ensures.none

pub returns-in-Err-clause-mistake : goal.returns-in-Err-clause-mistake
returns-in-Err-clause-mistake c least = inr (c.in-Some.opened.now, c.in-Some.ensures.some, inl c.in-Err.ensures.mistake)

-- no brace
pub returns-in_default-passed-clause-none : goal.returns-in_default-passed-clause-none
returns-in_default-passed-clause-none c =
    no_json_end c.args.columns.now c.args.text.now c.args.area.now c.requires.whole c.in-Some.opened.now c.in-Some.ensures.some
    c.read_values.new.area c.in-Ok.cell.at c.in-Ok.cell.behind.now c.in-Ok.ensures.read (λ behind is. c.in_default-passed.ensures.none refl (10 ∷ behind) is)

pub returns-in_default-passed-clause-mistake : goal.returns-in_default-passed-clause-mistake
returns-in_default-passed-clause-mistake c least = inr (
  c.in-Some.opened.now,
  c.in-Some.ensures.some,
  lacks_first Escaped c.args.columns.now c.in-Some.opened.now c.args.area.now c.read_values.new.area c.in-Ok.cell.at c.in-Ok.cell.behind.now c.in-Ok.ensures.read 125 10 (c.in_default-passed.ensures.none refl),
)

-- no LF
pub returns-in_default-passed-2-clause-none : goal.returns-in_default-passed-2-clause-none
returns-in_default-passed-2-clause-none c =
    no_json_end c.args.columns.now c.args.text.now c.args.area.now c.requires.whole c.in-Some.opened.now c.in-Some.ensures.some
    c.read_values.new.area c.in-Ok.cell.at c.in-Ok.cell.behind.now c.in-Ok.ensures.read (λ behind is. c.in_default-passed-2.ensures.none refl behind (behind_one 125 c.in-Some-passed.closed.now (10 ∷ behind) (sym c.in-Some-passed.ensures.some ∙ is)))

pub returns-in_default-passed-2-clause-mistake : goal.returns-in_default-passed-2-clause-mistake
returns-in_default-passed-2-clause-mistake c least = inr (
  c.in-Some.opened.now,
  c.in-Some.ensures.some,
  lacks_second Escaped c.args.columns.now c.in-Some.opened.now c.args.area.now c.read_values.new.area c.in-Ok.cell.at c.in-Ok.cell.behind.now c.in-Ok.ensures.read 125 10 c.in-Some-passed.closed.now c.in-Some-passed.ensures.some
      (c.in_default-passed-2.ensures.none refl),
)

pub returns-clause-read : goal.returns-clause-read
returns-clause-read c =
    json_part c.args.columns.now c.args.text.now c.args.area.now c.requires.whole c.in-Some.opened.now c.in-Some.ensures.some
    c.read_values.new.area c.in-Ok.cell.at c.in-Ok.cell.behind.now c.in-Ok.ensures.read
    c.in-Some-passed-2.behind.now (c.in-Some-passed.ensures.some ∙ ap (λ (l : List ℕ). 125 ∷ l) c.in-Some-passed-2.ensures.some)

use Rattle.std.proofs.Common.{refl, sym, ap, ◌∷◌, ◌∙◌, List, ℕ}
use Rattle.record_text.specs.declared.quoted.Quoting.TheVariants.{Doubled}
use Rattle.record_text.proofs.LineLemmas.{no_csv, no_csv_end, csv_part}
use Rattle.record_text.proofs.FormLemmas.{lacks_first, lacks_second}
use Rattle.record_text.proofs.NameLemmas.{behind_one}
use Rattle.record_text.proofs.line_reading.read_csv.Goals as goal

pub returns-in-Err-clause-none : goal.returns-in-Err-clause-none
returns-in-Err-clause-none c = no_csv c.args.columns.now c.args.text.now c.args.area.now c.requires.whole c.in-Err.ensures.none

-- no CR
pub returns-in_default-clause-none : goal.returns-in_default-clause-none
returns-in_default-clause-none c =
    no_csv_end c.args.columns.now c.args.text.now c.args.area.now c.requires.whole c.read_values.new.area c.in-Ok.cell.at c.in-Ok.cell.behind.now c.in-Ok.ensures.read
    (λ behind is. c.in_default.ensures.none refl (10 ∷ behind) is)

pub returns-in_default-clause-mistake : goal.returns-in_default-clause-mistake
returns-in_default-clause-mistake c least =
    lacks_first Doubled c.args.columns.now c.args.text.now c.args.area.now c.read_values.new.area c.in-Ok.cell.at c.in-Ok.cell.behind.now c.in-Ok.ensures.read 13 10 (c.in_default.ensures.none refl)

-- no LF
pub returns-in_default-passed-clause-none : goal.returns-in_default-passed-clause-none
returns-in_default-passed-clause-none c =
    no_csv_end c.args.columns.now c.args.text.now c.args.area.now c.requires.whole c.read_values.new.area c.in-Ok.cell.at c.in-Ok.cell.behind.now c.in-Ok.ensures.read
    (λ behind is. c.in_default-passed.ensures.none refl behind (behind_one 13 c.in-Some.ended.now (10 ∷ behind) (sym c.in-Some.ensures.some ∙ is)))

pub returns-in_default-passed-clause-mistake : goal.returns-in_default-passed-clause-mistake
returns-in_default-passed-clause-mistake c least =
    lacks_second Doubled c.args.columns.now c.args.text.now c.args.area.now c.read_values.new.area c.in-Ok.cell.at c.in-Ok.cell.behind.now c.in-Ok.ensures.read 13 10 c.in-Some.ended.now c.in-Some.ensures.some
    (c.in_default-passed.ensures.none refl)

pub returns-clause-read : goal.returns-clause-read
returns-clause-read c =
    csv_part c.args.columns.now c.args.text.now c.args.area.now c.requires.whole c.read_values.new.area c.in-Ok.cell.at c.in-Ok.cell.behind.now c.in-Ok.ensures.read
    c.in-Some-passed.behind.now (c.in-Some.ensures.some ∙ ap (λ (l : List ℕ). 13 ∷ l) c.in-Some-passed.ensures.some)

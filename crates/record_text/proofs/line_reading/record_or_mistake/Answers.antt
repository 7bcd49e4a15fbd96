use Rattle.std.proofs.Common.{ℕ, sym, subst}
use Rattle.record_text.specs.Mistake.{TellsShort}
use Rattle.record_text.proofs.FormLemmas.{short_line}
use Rattle.record_text.proofs.line_reading.record_or_mistake.Goals as goal

pub returns-then-line-from-clause-mistake : goal.returns-then-line-from-clause-mistake
returns-then-line-from-clause-mistake c =
    let line = c.in-Ok.line in
    let mistake = c.short_record.result in
    short_line c.args.form.now c.args.text.now c.args.area.now c.read_line.new.area line.length line.behind.now c.args.least c.requires.whole c.in-Ok.ensures.read (rw (sym c.from.ensures) c.if-line-from.true) mistake
    (subst (λ (n : ℕ). TellsShort c.args.form.now line.length c.args.least n mistake) c.read_line.auto.area c.short_record.ensures)

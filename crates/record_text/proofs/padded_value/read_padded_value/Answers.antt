use Rattle.std.proofs.Common.{refl, inr}
use Rattle.record_text.proofs.PaddedValueLemmas.{not_padded, none_padded, value_padded}
use Rattle.record_text.proofs.padded_value.read_padded_value.Goals as goal

pub returns-then-not-takes-clause-none : goal.returns-then-not-takes-clause-none
returns-then-not-takes-clause-none c =
    let no = c.takes.ensures.no c.if-not-takes.true in
    none_padded c.args.quoting c.args.is_first c.args.column.now c.args.text.now c.args.area.now c.from-from.result c.from.result c.in-Ok.cell.at c.read_value.new.area c.in-Ok.cell.behind.now
    c.from-from.ensures c.from.ensures c.requires.place c.in-Ok.ensures.read _ refl no.0 no.1

pub returns-then-not-takes-clause-mistake : goal.returns-then-not-takes-clause-mistake
returns-then-not-takes-clause-mistake c =
    let no = c.takes.ensures.no c.if-not-takes.true in
    inr (not_padded c.args.quoting c.args.is_first c.args.column.now c.args.text.now c.args.area.now c.from-from.result c.from.result c.in-Ok.cell.at c.read_value.new.area c.in-Ok.cell.behind.now
    c.from-from.ensures c.from.ensures c.requires.place c.in-Ok.ensures.read _ refl no.0 no.1)

pub returns-clause-read : goal.returns-clause-read
returns-clause-read c =
    value_padded c.args.quoting c.args.is_first c.args.column.now c.args.text.now c.args.area.now c.from-from.result c.from.result c.in-Ok.cell.at c.read_value.new.area c.in-Ok.cell.behind.now
    c.from-from.ensures c.from.ensures c.requires.place c.in-Ok.ensures.read _ refl (c.takes.ensures.yes c.if-not-takes.false) _ _ _ refl c.pad.ensures refl

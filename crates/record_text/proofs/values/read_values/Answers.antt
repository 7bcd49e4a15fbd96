use Rattle.std.proofs.Common.{rules, ◌≡◌, ◌≤◌, ◌-◌, [], List, ℕ, length, take, sym, subst}
use Rattle.record_text.specs.declared.column.Column.{Column}
use Rattle.record_text.specs.Quoted.{value_text}
use Rattle.record_text.specs.Part.{ReadsPart, HasNoPart, EndsValue}
use Rattle.record_text.specs.Mistake.{IsValueMistake}
use Rattle.record_text.proofs.ColumnLemmas.{IsBehind, behind_one, column_mistake}
use Rattle.record_text.proofs.ValuesLemmas.{AreReadUpTo, no_columns, room, no_values, column_read, all_read}
use Rattle.record_text.proofs.values.read_values.Goals as goal

pub read_value-requires : goal.read_value-requires
read_value-requires c =
    let m = c.more in
    let read = subst (λ (l : List Column). AreReadUpTo c.args.quoting c.args.columns.now c.args.text.now c.args.area.now m.is_first l m.area m.at m.rest.now) c.in-Some.ensures.cases.0 m.invariant.read in
    record {
      order = search rules;
      room = subst (λ (n : ℕ). n ≤ length m.area) (sym c.end_of-to.ensures)
          (room c.args.quoting c.args.columns.now c.args.text.now c.args.area.now m.is_first m.area m.at m.rest.now c.in-Some.column.now c.in-Some.after.now read);
    }

pub returns-in-Err-clause-none : goal.returns-in-Err-clause-none
returns-in-Err-clause-none c =
    let m = c.more in
    let column = c.in-Some.column.now in
    let read = subst (λ (l : List Column). AreReadUpTo c.args.quoting c.args.columns.now c.args.text.now c.args.area.now m.is_first l m.area m.at m.rest.now) c.in-Some.ensures.cases.0 m.invariant.read in
    no_values c.args.quoting c.args.columns.now c.args.text.now c.args.area.now m.is_first m.area m.at m.rest.now column c.in-Some.after.now read
    (subst (λ (n : ℕ). HasNoPart (value_text c.args.quoting m.is_first column.name.bytes) (EndsValue c.args.quoting) m.rest.now m.at n) c.end_of-to.ensures c.in-Err.ensures.none)

pub returns-in-Err-clause-mistake : goal.returns-in-Err-clause-mistake
returns-in-Err-clause-mistake c =
    let m = c.more in
    let column = c.in-Some.column.now in
    let mistake = c.in-Err.mistake in
    let cases = c.in-Some.ensures.cases.0 in
    let read = subst (λ (l : List Column). AreReadUpTo c.args.quoting c.args.columns.now c.args.text.now c.args.area.now m.is_first l m.area m.at m.rest.now) cases m.invariant.read in
    let behind = subst (λ (l : List Column). IsBehind c.args.quoting c.args.columns.now c.args.text.now m.is_first l (take m.at m.area) m.rest.now) cases m.invariant.behind in
    let wrong = subst (λ (n : ℕ). IsValueMistake c.args.quoting m.is_first column.name.bytes m.rest.now (n - m.at) mistake) c.end_of-to.ensures c.in-Err.ensures.mistake in
    column_mistake c.args.quoting c.args.columns.now c.args.text.now c.args.area.now c.requires.whole m.is_first m.area m.at m.rest.now column c.in-Some.after.now read behind mistake wrong c.told_of.result c.told_of.ensures

pub more-preserved : goal.more-preserved
more-preserved c =
    let m = c.more in
    let column = c.in-Some.column.now in
    let cell = c.in-Ok.cell in
    let cases = c.in-Some.ensures.cases.0 in
    let read = subst (λ (l : List Column). AreReadUpTo c.args.quoting c.args.columns.now c.args.text.now c.args.area.now m.is_first l m.area m.at m.rest.now) cases m.invariant.read in
    let behind = subst (λ (l : List Column). IsBehind c.args.quoting c.args.columns.now c.args.text.now m.is_first l (take m.at m.area) m.rest.now) cases m.invariant.behind in
    let part = subst (λ (n : ℕ). ReadsPart (value_text c.args.quoting m.is_first column.name.bytes) (EndsValue c.args.quoting) m.rest.now m.area m.at n c.read_value.new.area cell.at cell.behind.now) c.end_of-to.ensures c.in-Ok.ensures.read in
    record {
      read = column_read c.args.quoting c.args.columns.now c.args.text.now c.args.area.now m.is_first m.area m.at m.rest.now column c.in-Some.after.now read c.read_value.new.area cell.at cell.behind.now part;
      behind = behind_one c.args.quoting c.args.columns.now c.args.text.now c.args.area.now c.requires.whole m.is_first m.area m.at m.rest.now column c.in-Some.after.now read behind c.read_value.new.area cell.at cell.behind.now part;
    }

pub returns-clause-read : goal.returns-clause-read
returns-clause-read c =
    let m = c.more in
    let none : m.left.now ≡ [] = no_columns m.left.now (search rules) in
    all_read c.args.quoting c.args.columns.now c.args.text.now c.args.area.now m.is_first m.area m.at m.rest.now
    (subst (λ (l : List Column). AreReadUpTo c.args.quoting c.args.columns.now c.args.text.now c.args.area.now m.is_first l m.area m.at m.rest.now) none m.invariant.read)

use Rattle.std.proofs.Common.{rules, ◌≡◌, [], List, refl, subst}
use Rattle.record_text.specs.declared.column.Column.{Column}
use Rattle.record_text.proofs.ValuesLemmas.{no_columns}
use Rattle.record_text.proofs.PaddedLemmas.{ArePaddedUpTo, none_padded, place, no_values, wrong_value, one_padded, all_padded}
use Rattle.record_text.proofs.padded_values.read_padded_values.Goals as goal

pub more-init : goal.more-init
more-init c = none_padded c.args.quoting c.args.columns.now c.args.text.now c.args.area.now c.requires.whole

pub read_padded_value-requires : goal.read_padded_value-requires
read_padded_value-requires c =
    let m = c.more in
    let read = subst (λ (l : List Column). ArePaddedUpTo c.args.quoting c.args.columns.now c.args.text.now c.args.area.now m.is_first l m.area m.rest.now) c.in-Some.ensures.cases.0 m.invariant in
    record { place = place c.args.quoting c.args.columns.now c.args.text.now c.args.area.now m.is_first m.area m.rest.now c.in-Some.column.now c.in-Some.after.now read }

pub returns-in-Err-clause-none : goal.returns-in-Err-clause-none
returns-in-Err-clause-none c =
    let m = c.more in
    let read = subst (λ (l : List Column). ArePaddedUpTo c.args.quoting c.args.columns.now c.args.text.now c.args.area.now m.is_first l m.area m.rest.now) c.in-Some.ensures.cases.0 m.invariant in
    no_values c.args.quoting c.args.columns.now c.args.text.now c.args.area.now m.is_first m.area m.rest.now c.in-Some.column.now c.in-Some.after.now read c.in-Err.ensures.none

pub returns-in-Err-clause-mistake : goal.returns-in-Err-clause-mistake
returns-in-Err-clause-mistake c =
    let m = c.more in
    let read = subst (λ (l : List Column). ArePaddedUpTo c.args.quoting c.args.columns.now c.args.text.now c.args.area.now m.is_first l m.area m.rest.now) c.in-Some.ensures.cases.0 m.invariant in
    wrong_value c.args.quoting c.args.columns.now c.args.text.now c.args.area.now m.is_first m.area m.rest.now c.in-Some.column.now c.in-Some.after.now read _ refl refl refl c.in-Err.ensures.mistake

pub more-preserved : goal.more-preserved
more-preserved c =
    let m = c.more in
    let read = subst (λ (l : List Column). ArePaddedUpTo c.args.quoting c.args.columns.now c.args.text.now c.args.area.now m.is_first l m.area m.rest.now) c.in-Some.ensures.cases.0 m.invariant in
    one_padded c.args.quoting c.args.columns.now c.args.text.now c.args.area.now m.is_first m.area m.rest.now c.in-Some.column.now c.in-Some.after.now read c.read_padded_value.new.area c.in-Ok.behind.now c.in-Ok.ensures.read

pub returns-clause-read : goal.returns-clause-read
returns-clause-read c =
    let m = c.more in
    let none : m.left.now ≡ [] = no_columns m.left.now (search rules) in
    all_padded c.args.quoting c.args.columns.now c.args.text.now c.args.area.now m.is_first m.area m.rest.now
    (subst (λ (l : List Column). ArePaddedUpTo c.args.quoting c.args.columns.now c.args.text.now c.args.area.now m.is_first l m.area m.rest.now) none m.invariant)

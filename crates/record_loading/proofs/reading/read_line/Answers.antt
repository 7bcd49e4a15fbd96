use Rattle.std.proofs.Common.{Bool, length, sym, subst}
use Rattle.std.specs.Prelude.{IfErr, OnErr}
use Rattle.record_loading.specs.LineForm.{BeginsWithNone, HasMistake}
use Rattle.record_loading.proofs.ReadingLemmas.{exact_read, padded_read}
use Rattle.record_loading.proofs.reading.read_line.Goals as goal

-- filled up
pub returns-then-options-clause-read : goal.returns-then-options-clause-read
returns-then-options-clause-read c =
    padded_read c.args.form.now c.args.options c.args.text.now c.args.least c.args.area.now c.padded_or_mistake.new.area c.padded_or_mistake.auto.area c.requires.ordered c.if-options.true c.padded_or_mistake.result
    c.padded_or_mistake.ensures.read c.padded_or_mistake.ensures.whole

pub returns-then-options-clause-none : goal.returns-then-options-clause-none
returns-then-options-clause-none c =
    subst (λ (pad : Bool). OnErr c.padded_or_mistake.result (BeginsWithNone pad c.args.form.now c.args.text.now c.args.least (length c.args.area.now))) (sym c.if-options.true) c.padded_or_mistake.ensures.none

pub returns-then-options-clause-mistake : goal.returns-then-options-clause-mistake
returns-then-options-clause-mistake c =
    subst (λ (pad : Bool). IfErr c.padded_or_mistake.result (HasMistake pad c.args.form.now c.args.text.now c.args.least (length c.args.area.now))) (sym c.if-options.true) c.padded_or_mistake.ensures.mistake

-- exactly
pub returns-clause-read : goal.returns-clause-read
returns-clause-read c =
    exact_read c.args.form.now c.args.options c.args.text.now c.args.least c.args.area.now c.record_or_mistake.new.area c.if-options.false c.record_or_mistake.result c.record_or_mistake.ensures.read

pub returns-clause-none : goal.returns-clause-none
returns-clause-none c =
    subst (λ (pad : Bool). OnErr c.record_or_mistake.result (BeginsWithNone pad c.args.form.now c.args.text.now c.args.least (length c.args.area.now))) (sym c.if-options.false) c.record_or_mistake.ensures.none

pub returns-clause-mistake : goal.returns-clause-mistake
returns-clause-mistake c =
    subst (λ (pad : Bool). IfErr c.record_or_mistake.result (HasMistake pad c.args.form.now c.args.text.now c.args.least (length c.args.area.now))) (sym c.if-options.false) c.record_or_mistake.ensures.mistake

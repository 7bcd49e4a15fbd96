use Rattle.std.proofs.Common.{◌≡◌, ◌≤◌, ℕ, ◌++◌, length, refl, sym, ap, ◌∙◌, arith, subst}
use Rattle.record_text.specs.Mistake.{IsLongText}
use Rattle.record_text.proofs.LongLemmas.{long_mistake}
use Rattle.deck_runner.specs.Line.{shown_byte}
use Rattle.record_text.proofs.TextReadingLemmas.{none_at, one_more}
use Rattle.record_text.proofs.text_reading.read_text.Goals as goal

pub returns-in_default-clause-none : goal.returns-in_default-clause-none
returns-in_default-clause-none c =
    none_at c.args.text.now c.args.area.now c.more.area c.more.length c.more.rest.now c.more.invariant (c.more-test.ensures.no refl) (c.in_default.ensures.none refl) (length c.args.area.now)

pub more-preserved : goal.more-preserved
more-preserved c =
    let first = c.in-Some.first in
    let at : c.more.rest.now ≡ shown_byte first.byte ++ c.split_at.result.1.now = c.in-Some.ensures.shown.0 ∙ ap (λ l. shown_byte first.byte ++ l) (sym c.split_at.ensures.back) in
    one_more c.args.text.now c.args.area.now c.more.area c.more.length c.more.rest.now c.more.invariant first.byte c.split_at.result.1.now (c.more-test.ensures.no refl)
    c.in-Some.ensures.byte (omega (arith, c.if-length-area.false, c.more.invariant.same)) at

pub returns-then-length-area-clause-mistake : goal.returns-then-length-area-clause-mistake
returns-then-length-area-clause-mistake c =
    let mistake = c.long_record.result in
    let same : length c.more.area ≡ length c.args.area.now = c.more.invariant.same in
    let full : length c.args.area.now ≤ c.more.length = (let over = c.if-length-area.true in omega (arith, over, same)) in
    long_mistake c.args.text.now c.args.area.now c.more.area c.more.length c.more.rest.now c.more.invariant full (c.more-test.ensures.no refl) c.args.least mistake
    (subst (λ (n : ℕ). IsLongText c.more.rest.now c.more.length c.args.least n mistake) same c.long_record.ensures)

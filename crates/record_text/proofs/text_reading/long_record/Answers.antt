use Rattle.std.proofs.Common.{◌≡◌, ◌++◌, sym, ap, ◌∙◌}
use Rattle.deck_runner.specs.Line.{shown_byte}
use Rattle.record_text.proofs.LongLemmas.{gone_one}
use Rattle.record_text.proofs.text_reading.long_record.Goals as goal

pub more-preserved : goal.more-preserved
more-preserved c =
    let first = c.in-Some.first in
    let at : c.more.rest.now ≡ shown_byte first.byte ++ c.split_at.result.1.now = c.in-Some.ensures.shown.0 ∙ ap (λ l. shown_byte first.byte ++ l) (sym c.split_at.ensures.back) in
    gone_one c.args.text.now c.args.read c.more.bytes c.more.rest.now c.more.invariant first.byte c.split_at.result.1.now c.in-Some.ensures.byte at

use Rattle.std.proofs.Common.{◌≡◌, ◌++◌, sym, ap, ◌∙◌}
use Rattle.record_text.specs.Quoted.{quoted_byte}
use Rattle.record_text.proofs.MistakeLemmas.{one_counted}
use Rattle.record_text.proofs.counted.count_on.Goals as goal

pub more-preserved : goal.more-preserved
more-preserved c =
    let first = c.in-Some.first in
    let at : c.more.rest.now ≡ quoted_byte c.args.quoting first.byte ++ c.split_at.result.1.now = c.in-Some.ensures.shown.0 ∙ ap (λ l. quoted_byte c.args.quoting first.byte ++ l) (sym c.split_at.ensures.back) in
    one_counted c.args.quoting c.args.text.now c.args.bytes c.more.count c.more.rest.now c.more.invariant first.byte c.split_at.result.1.now c.in-Some.ensures.byte at

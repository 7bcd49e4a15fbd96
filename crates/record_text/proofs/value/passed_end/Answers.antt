use Rattle.std.proofs.Common.{◌<◌, refl, arith}
use Rattle.record_text.proofs.MistakeLemmas.{no_end, no_more}
use Rattle.record_text.proofs.value.passed_end.Goals as goal

pub returns-in_default-clause-none : goal.returns-in_default-clause-none
returns-in_default-clause-none c =
    let counted = c.count_on-counted in
    no_end c.args.quoting c.args.text.now counted.ensures.more counted.result.behind.now counted.ensures.are (c.in_default.ensures.none refl)

pub returns-then-counted-bytes-clause-none : goal.returns-then-counted-bytes-clause-none
returns-then-counted-bytes-clause-none c =
    let counted = c.count_on-counted in
    let some : 0 < counted.ensures.more = (let count = counted.ensures.count_is in let more = c.if-counted-bytes.true in omega (arith, count, more)) in
    no_more c.args.quoting c.args.text.now counted.ensures.more counted.result.behind.now counted.ensures.are some

use Rattle.record_layout.proofs.PartsLemmas.{rise_behind, none_rise}
use Rattle.record_layout.proofs.parts.+rise.Goals as goal

pub returns-then-begin_behind : goal.returns-then-begin_behind
returns-then-begin_behind t c =
    rise_behind c.in-Some.first.now c.in-Some.later.now c.args.alternates.now c.rise.result c.in-Some.ensures.cases.0 (c.begin_behind.ensures.0 c.if-begin_behind.true) c.rise.ensures

pub returns-else-begin_behind : goal.returns-else-begin_behind
returns-else-begin_behind t c =
    none_rise c.in-Some.first.now c.in-Some.later.now c.args.alternates.now c.begin_behind.result c.in-Some.ensures.cases.0 c.if-begin_behind.false c.begin_behind.ensures

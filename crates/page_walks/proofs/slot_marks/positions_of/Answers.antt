use Rattle.std.proofs.Common.{arith}
use Rattle.page_walks.proofs.MarkAheadLemmas.{position_more}
use Rattle.page_walks.proofs.slot_marks.positions_of.Goals as goal

pub loop-i-preserved : goal.loop-i-preserved
loop-i-preserved c =
    position_more c.args.own.now c.loop-i.positions.items c.loop-i.i (omega arith) (omega arith) c.loop-i.invariant

pub loop-i-init : goal.loop-i-init
loop-i-init c = λ apart j less. absurd (omega (arith, less))

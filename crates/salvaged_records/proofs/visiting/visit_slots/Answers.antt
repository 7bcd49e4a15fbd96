use Rattle.salvaged_records.proofs.VisitLemmas.{slot_next}
use Rattle.salvaged_records.proofs.visiting.visit_slots.Goals as goal

pub loop-i-init : goal.loop-i-init
loop-i-init g c = g.met.V.TakesSlots.takes_none c.args.visitor.now

pub loop-i-preserved : goal.loop-i-preserved
loop-i-preserved g c =
    slot_next (g.V.TakesSlots.takes c.args.visitor.now c.visit_slot.new.visitor) c.args.shape c.args.page.now c.args.n c.loop-i.i
    (g.met.V.TakesSlots.takes_on c.args.visitor.now c.loop-i.visitor c.visit_slot.new.visitor _ _ c.loop-i.invariant c.in_ok-visit_slot.ensures)

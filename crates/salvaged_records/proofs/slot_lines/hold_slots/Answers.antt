use Rattle.std.proofs.Common.{◌≡◌, ℕ, subst, arith}
use Rattle.record_heap.specs.Slot.{room}
use Rattle.salvaged_records.specs.Slots.{slots_to}
use Rattle.salvaged_records.specs.Writing.{HoldsSlots}
use Rattle.salvaged_records.proofs.VisitLemmas.{slot_next}
use Rattle.salvaged_records.proofs.WriteLemmas.{holds_none, holds_on}
use Rattle.salvaged_records.proofs.slot_lines.hold_slots.Goals as goal

pub loop-i-init : goal.loop-i-init
loop-i-init g c = record {
  within = omega arith;
  held = holds_none c.args.list.now (g.W.Write.contents c.args.out.now) c.args.held.now c.requires.room;
  few = omega arith;
}

pub loop-i-preserved : goal.loop-i-preserved
loop-i-preserved g c = record {
  within = let below = c.loop-i-test.true in let many = c.room-i-end.ensures.value in omega (arith, below, many);
  held =
      slot_next (HoldsSlots c.args.list.now (g.W.Write.contents c.args.out.now) (g.W.Write.contents c.hold_found.new.out) c.args.held.now c.hold_found.new.held) c.args.shape c.args.page.now c.args.n c.loop-i.i
      (holds_on c.args.list.now (g.W.Write.contents c.args.out.now) (g.W.Write.contents c.loop-i.out) (g.W.Write.contents c.hold_found.new.out) c.args.held.now c.loop-i.held c.hold_found.new.held _ _
      c.loop-i.invariant.held c.in_ok-hold_found.ensures.held);
  few = let had = c.loop-i.invariant.few in let more = c.hold_found.ensures.few in omega (arith, had, more);
}

pub returns-clause-held : goal.returns-clause-held
returns-clause-held g c =
    let past = c.loop-i-test.false in
    let many = c.room-i-end.ensures.value in
    let within = c.loop-i.invariant.within in
    let all : c.loop-i.i ≡ room c.args.shape = omega (arith, past, many, within) in
    subst (λ (n : ℕ). HoldsSlots c.args.list.now (g.W.Write.contents c.args.out.now) (g.W.Write.contents c.loop-i.out) c.args.held.now c.loop-i.held (slots_to c.args.shape c.args.page.now c.args.n n)) all
    c.loop-i.invariant.held

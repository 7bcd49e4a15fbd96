use Rattle.std.proofs.Common.{List, sym, subst, refl}
use Rattle.std.specs.Prelude.{OnOk}
use Rattle.salvaged_records.specs.Slots.{FoundSlot}
use Rattle.salvaged_records.specs.Writing.{HoldsSlots}
use Rattle.salvaged_records.proofs.WriteLemmas.{holds_none}
use Rattle.salvaged_records.proofs.slot_lines.hold_found.Goals as goal

pub returns-in-Some-clause-held : goal.returns-in-Some-clause-held
returns-in-Some-clause-held g c =
    subst (λ (slots : List FoundSlot). OnOk c.hold_listed.result (HoldsSlots c.args.list.now (g.W.Write.contents c.args.out.now) (g.W.Write.contents c.hold_listed.new.out) c.args.held.now c.hold_listed.new.held slots))
    (sym c.in-Some.ensures.some) c.hold_listed.ensures.held

pub returns-in-None-clause-held : goal.returns-in-None-clause-held
returns-in-None-clause-held g c =
    subst (HoldsSlots c.args.list.now (g.W.Write.contents c.args.out.now) (g.W.Write.contents c.args.out.now) c.args.held.now c.args.held.now) (sym (c.in-None.ensures.none refl))
    (holds_none c.args.list.now (g.W.Write.contents c.args.out.now) c.args.held.now c.requires.room)

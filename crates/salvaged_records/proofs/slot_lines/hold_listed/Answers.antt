use Rattle.std.proofs.Common.{refl, sym, ◌∙◌}
use Rattle.salvaged_records.specs.Slots.{found_slot}
use Rattle.salvaged_records.proofs.WriteLemmas.{holds_one, holds_passed}
use Rattle.salvaged_records.proofs.slot_lines.hold_listed.Goals as goal

pub returns-then-not-is_listed-clause-held : goal.returns-then-not-is_listed-clause-held
returns-then-not-is_listed-clause-held g c =
    holds_passed c.args.list.now (g.W.Write.contents c.args.out.now) c.args.held.now (found_slot c.args.slot.now) (sym c.is_listed.ensures ∙ c.if-not-is_listed.true) c.requires.room

pub returns-clause-held : goal.returns-clause-held
returns-clause-held g c =
    holds_one c.args.list.now (g.W.Write.contents c.args.out.now) (g.W.Write.contents c.hold_slot.new.out) c.args.held.now _ (found_slot c.args.slot.now) (sym c.is_listed.ensures ∙ c.if-not-is_listed.false)
    c.in_ok-hold_slot.ensures.held refl c.hold_slot.ensures.room

use Rattle.std.proofs.Common.{refl, sym, ◌∙◌}
use Rattle.std.proofs.lemmas.Result.{on_ok_weaker}
use Rattle.salvaged_records.specs.Slots.{found_slot}
use Rattle.salvaged_records.proofs.NoteLemmas.{noted, passed}
use Rattle.salvaged_records.proofs.noting.NotingTakesSlots.take.Goals as goal

pub returns-then-is_picked : goal.returns-then-is_picked
returns-then-is_picked c =
    on_ok_weaker c.note.result (λ notes. noted c.args.self.now _ (found_slot c.args.slot.now) c.of-value.result.now refl refl (sym c.is_picked.ensures ∙ c.if-is_picked.true) c.of-value.ensures notes)
    c.note.ensures

pub returns : goal.returns
returns c = passed c.args.self.now _ (found_slot c.args.slot.now) refl refl refl refl (sym c.is_picked.ensures ∙ c.if-is_picked.false)

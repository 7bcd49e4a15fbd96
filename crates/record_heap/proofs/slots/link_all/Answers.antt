use Rattle.std.proofs.Common.{◌≡◌, ◌∙◌, ◌<◌, ℕ, Some, ap, subst}
use Rattle.record_heap.specs.declared.shape.Place.{Place}
use Rattle.record_heap.specs.Slot.{room, behind_in}
use Rattle.record_heap.specs.Slots.{Edits, behind_new}
use Rattle.record_heap.proofs.EditLemmas.{linked_more}
use Rattle.record_heap.proofs.slots.link_all.Goals as goal

pub loop-i-preserved : goal.loop-i-preserved
loop-i-preserved c =
    let next : c.place_behind.result ≡ behind_new (room c.args.shape) c.args.n c.loop-i.i =
    c.place_behind.ensures ∙ ap (λ (k : ℕ). behind_new k c.args.n c.loop-i.i) c.room-room.ensures.value in
    let within : c.loop-i.i < room c.args.shape = subst (λ (k : ℕ). c.loop-i.i < k) c.room-room.ensures.value c.loop-i-test.true in
    let edit = subst (λ (p : Place). Edits c.args.shape c.loop-i.page c.put_free.new.page c.loop-i.i (λ slot. behind_in slot ≡ Some p)) next c.put_free.ensures in
    record {
      linked = linked_more c.args.shape c.loop-i.page c.put_free.new.page c.args.n c.loop-i.i c.loop-i.invariant.linked edit within;
      start = c.put_free.ensures.start ∙ c.loop-i.invariant.start;
    }

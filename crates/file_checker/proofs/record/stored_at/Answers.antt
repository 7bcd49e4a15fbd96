use Rattle.std.proofs.Common.{◌≤◌, ap, sym, subst, ◌∙◌, ℕ, refl}
use Rattle.record_heap.specs.Slot.{room}
use Rattle.record_heap.specs.Standing.{slot_shape}
use Rattle.file_checker.proofs.SlotLemmas.{no_slot}
use Rattle.file_checker.proofs.record.stored_at.Goals as goal
use Rattle.open_file.specs.Fields.{heap_of}

pub returns-then-i-room : goal.returns-then-i-room
returns-then-i-room g c =
    let shape = slot_shape (heap_of c.args.file.now) in
    let past = subst (λ (n : ℕ). n ≤ c.args.place.slot) (c.room.ensures.value ∙ ap room (c.shape-shape.ensures ∙ ap slot_shape c.heap.ensures)) c.if-i-room.true in
    ((refl, λ _. tt, (λ list has. sym (no_slot shape list c.args.place past), λ list has. has)), record { lends = tt; within = tt; fits = tt })

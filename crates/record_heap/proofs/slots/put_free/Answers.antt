use Rattle.std.proofs.Common.{◌≡◌, ◌+◌, ◌-◌, ◌*◌, Some, arith}
use Rattle.record_heap.specs.Slot.{behind_in}
use Rattle.record_heap.proofs.EditLemmas.{edits}
use Rattle.record_heap.proofs.slots.put_free.Goals as goal

pub returns : goal.returns
returns c =
    let s = c.size-size.result in
    let at = 16 + c.args.i * s in
    let width : at + s - at ≡ s = omega arith in
    edits c.args.shape c.args.page.now c.write_free.new.slot c.args.i s (at + s - at) (λ slot. behind_in slot ≡ Some c.args.next) c.told-page c.size-size.ensures.value c.requires width c.write_free.ensures.long c.write_free.ensures.free

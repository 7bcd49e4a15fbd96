use Rattle.std.proofs.Common.{◌≡◌, ◌+◌, ◌-◌, ◌*◌, ◌++◌, Some, arith}
use Rattle.record_heap.specs.Slot.{used_in}
use Rattle.record_heap.proofs.EditLemmas.{edits}
use Rattle.record_heap.proofs.slots.put_used.Goals as goal

pub returns : goal.returns
returns c =
    let s = c.size-size.result in
    let at = 16 + c.args.i * s in
    let width : at + s - at ≡ s = omega arith in
    edits c.args.shape c.args.page.now c.write_used.new.slot c.args.i s (at + s - at) (λ slot. used_in c.args.shape slot ≡ Some (c.args.stamps.now ++ c.args.record.now)) c.told-page c.size-size.ensures.value c.requires.slot width c.write_used.ensures.long c.write_used.ensures.used

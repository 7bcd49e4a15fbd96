use Rattle.std.proofs.Common.{◌≡◌, ◌+◌, ◌-◌, ◌*◌, arith}
use Rattle.record_heap.proofs.EditLemmas.{slot_is}
use Rattle.salvaged_records.proofs.slots.slot.Goals as goal

pub returns-clause-value : goal.returns-clause-value
returns-clause-value c =
    let s = c.size-size.result in
    let at = 16 + c.args.i * s in
    let width : at + s - at ≡ s = omega arith in
    slot_is c.args.shape c.args.page.now c.args.i s (at + s - at) c.size-size.ensures.value width c.requires

use Rattle.std.proofs.Common.{drop, length, ap, ◌∙◌, arith}
use Rattle.byteorder.specs.Endian.{big_bytes}
use Rattle.record_heap.proofs.SlotLemmas.{marked_twice, behind_is, none_behind}
use Rattle.record_heap.proofs.slot.write_free.Goals as goal

pub returns-clause-free : goal.returns-clause-free
returns-clause-free c =
    let first = c.write_u32.ensures ∙ none_behind 4 (big_bytes 4 c.args.next.page) _ in
    let second = c.write_u16.ensures ∙ none_behind 2 (big_bytes 2 c.args.next.slot) _ in
    behind_is _ c.write_u32.new.buf c.write_u16.new.buf (drop 7 c.args.slot.now) c.args.next
    (marked_twice c.args.slot.now c.write_u32.new.buf c.write_u16.new.buf 0 4 2 (omega arith) (ap length first)) first second (omega arith) (omega arith)

use Rattle.std.proofs.Common.{◌+◌, ◌-◌, ℕ, List, ◌∷◌, ◌++◌, drop, length, suc, ap, ◌∙◌, arith, length-append, rules}
use Rattle.byteorder.specs.Endian.{big_bytes}
use Rattle.record_heap.proofs.SlotLemmas.{marked_twice, used_varying, none_behind}
use Rattle.record_heap.proofs.slot.write_varying.Goals as goal

pub returns : goal.returns
returns c =
    let stamps = c.args.stamps.now in
    let record' = c.args.record.now in
    let n = length record' in
    let k = 3 + length stamps + n - 3 in
    let rest = drop (suc (2 + k)) c.args.slot.now in
    let first = c.write_u16.ensures ∙ none_behind 2 (big_bytes 2 n) _ in
    let long = length-append stamps record' in
    let used = used_varying c.args.shape _ c.write_u16.new.buf (stamps ++ record') rest n
    (marked_twice c.args.slot.now c.write_u16.new.buf c.write_both.new.to 1 2 k (omega arith) (ap length first)
    ∙ ap (λ (l : List ℕ). 1 ∷ (c.write_u16.new.buf ++ (l ++ rest))) c.write_both.ensures)
    c.requires.varying first (omega arith) (omega (arith, long, c.requires.fits.stamps)) (omega arith) (omega arith) in
    record { used = used; long = search rules }

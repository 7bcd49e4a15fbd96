use Rattle.std.proofs.Common.{◌+◌, ◌-◌, ℕ, List, ◌∷◌, ◌++◌, drop, length, suc, ap, ◌∙◌, arith, length-append, rules}
use Rattle.record_heap.proofs.SlotLemmas.{marked, used_fixed}
use Rattle.record_heap.proofs.slot.write_fixed.Goals as goal

pub returns : goal.returns
returns c =
    let stamps = c.args.stamps.now in
    let record' = c.args.record.now in
    let k = 1 + length stamps + length record' - 1 in
    let rest = drop (suc k) c.args.slot.now in
    let used = used_fixed c.args.shape _ (stamps ++ record') rest
    (marked c.args.slot.now c.write_both.new.to 1 k (omega arith) ∙ ap (λ (l : List ℕ). 1 ∷ (l ++ rest)) c.write_both.ensures)
    c.requires.fixed (omega (arith, length-append stamps record', c.requires.fits.stamps, c.requires.fits.least, c.requires.fits.greatest, c.requires.fixed)) in
    record { used = used; long = search rules }

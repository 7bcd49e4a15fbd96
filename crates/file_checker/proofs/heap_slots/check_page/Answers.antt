use Rattle.std.proofs.Common.{refl, ap, ◌∙◌, arith}
use Rattle.record_heap.specs.Slot.{room}
use Rattle.page_walks.specs.Spots.{spots_in}
use Rattle.record_heap.specs.Standing.{slot_shape}
use Rattle.file_checker.specs.Leading.{HasEntry}
use Rattle.file_checker.proofs.PrimeAheadLemmas.{never}
use Rattle.file_checker.proofs.RowFaultLemmas.{slot_told}
use Rattle.file_checker.proofs.SlotLemmas.{slots_more}
use Rattle.file_checker.proofs.heap_slots.check_page.Goals as goal
use Rattle.open_file.specs.Fields.{heap_of}

pub loop-i-init : goal.loop-i-init
loop-i-init g c = record { each = λ list has p is below. absurd (omega (arith, below)); back = λ list has. has }

pub loop-i-preserved : goal.loop-i-preserved
loop-i-preserved g c = record {
  each = λ list has.
      slots_more (slot_shape (heap_of c.args.file.now)) (HasEntry c.args.file.now list (spots_in c.args.primes.now)) c.args.n c.loop-i.i (c.loop-i.invariant.each list (c.if-not-has_entry.ensures.before list has))
      (c.if-not-has_entry.ensures.entry list has refl);
  back = λ list has. c.loop-i.invariant.back list (c.if-not-has_entry.ensures.before list has);
}

pub returns-clause-checks : goal.returns-clause-checks
returns-clause-checks g c = λ list has. record {
  stands = λ p is within. c.loop-i.invariant.each list has p is (let end = c.loop-i-test.false in let many = c.room-i-end.ensures.value ∙ ap room (c.shape.ensures ∙ ap slot_shape c.heap.ensures) in omega (arith, end, many, within));
  refused = tt;
  told = tt;
}

pub returns-then-not-has_entry-clause-checks : goal.returns-then-not-has_entry-clause-checks
returns-then-not-has_entry-clause-checks g c = λ list has.
    let many = c.room-i-end.ensures.value ∙ ap room (c.shape.ensures ∙ ap slot_shape c.heap.ensures) in
    let within = c.loop-i-test.true in
    record {
      stands = tt;
      refused = λ lead all. never (c.if-not-has_entry.ensures.refused list has lead (all (record { page = c.args.n; slot = c.loop-i.i }) refl (omega (arith, many, within))));
      told = λ lead.
          slot_told c.args.file.now list (spots_in c.args.primes.now) (record { page = c.args.n; slot = c.loop-i.i }) _ c.slot_without_entry.ensures (omega (arith, many, within))
          (λ entry. never (c.if-not-has_entry.ensures.refused list has lead entry));
    }

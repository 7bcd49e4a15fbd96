use Rattle.std.proofs.Common.{◌≡◌, ◌<◌, ◌+◌, ℕ, true, false, suc, List, take, get_or, sym, subst, arith}
use Rattle.std.proofs.Math.Seq.{take-suc}
use Rattle.std.proofs.lemmas.List.{take_all}
use Rattle.pages.specs.PageList.{pages_in}
use Rattle.record_heap.specs.declared.shape.Place.{Place}
use Rattle.record_heap.specs.Slot.{room}
use Rattle.record_heap.specs.Walk.{is_in_list}
use Rattle.record_heap.specs.Standing.{slot_shape}
use Rattle.page_walks.specs.Spots.{spots_in}
use Rattle.file_checker.specs.Comparing.{pages_read}
use Rattle.file_checker.specs.Leading.{HasEntry}
use Rattle.file_checker.proofs.PrimeAheadLemmas.{in_list_at, page_has}
use Rattle.std.proofs.Common.{[], ◌∷◌}
use Rattle.file_checker.specs.RowFaults.{HasNoEntry}
use Rattle.file_checker.proofs.RowFaultLemmas.{handed_on, rows_more, slot_more}
use Rattle.file_checker.proofs.SlotLemmas.{pages_more, own_slot}
use Rattle.file_checker.proofs.heap_slots.check_slots.Goals as goal
use Rattle.open_file.specs.Fields.{heap_of}

pub loop-n-init : goal.loop-n-init
loop-n-init g c = record { each = λ list has p one within. (let bad : false ≡ true = one in absurd (cc)); back = λ list has. has }

pub loop-n-preserved : goal.loop-n-preserved
loop-n-preserved g c = record {
  each = λ list has.
      let own = c.args.own.now in
      let k = c.loop-n.n-index in
      let shape = slot_shape (heap_of c.args.file.now) in
      let Has = HasEntry c.args.file.now list (spots_in c.args.primes.now) in
      let up : k + 1 ≡ suc k = omega arith in
      subst (λ (m : ℕ). (p : Place) → is_in_list (take m own) p.page ≡ true → p.slot < room shape → Has p) (sym up)
      (subst (λ (ms : List ℕ). (p : Place) → is_in_list ms p.page ≡ true → p.slot < room shape → Has p) (sym (take-suc own k 0 c.loop-n-test.true))
      (pages_more shape Has (take k own) (get_or own k 0) (c.loop-n.invariant.each list (c.check_page.ensures.before list has)) (c.in_ok-check_page.ensures.checks list has).stands));
  back = λ list has. c.loop-n.invariant.back list (c.check_page.ensures.before list has);
}

pub returns-clause-checks : goal.returns-clause-checks
returns-clause-checks g c = λ list has. record {
  stands = λ p some.
      let own = own_slot (slot_shape (heap_of c.args.file.now)) (pages_in list) c.args.own.now p some in
      c.loop-n.invariant.each list has p (subst (λ (ms : List ℕ). is_in_list ms p.page ≡ true) (sym (take_all c.loop-n.n-index c.args.own.now c.loop-n-test.false)) own.0) own.1 own.2;
  refused = tt;
  told = tt;
}

pub returns-in_err-check_page-clause-checks : goal.returns-in_err-check_page-clause-checks
returns-in_err-check_page-clause-checks g c = λ list has.
    let file = c.args.file.now in
    let spots = spots_in c.args.primes.now in
    let own = c.args.own.now in
    let n = get_or own c.loop-n.n-index 0 in
    let one = in_list_at own c.loop-n.n-index 0 c.loop-n-test.true in
    handed_on (pages_read file list c.args.primes.now) c.from_residual.result _ c.from_residual.ensures.1 (λ lead all. (c.in_err-check_page.ensures.checks list has).refused lead (page_has file list spots own n one all))
    (λ lead. rows_more (HasNoEntry file list spots (n ∷ [])) (HasNoEntry file list spots own) _ (slot_more file list spots own n one) ((c.in_err-check_page.ensures.checks list has).told lead))

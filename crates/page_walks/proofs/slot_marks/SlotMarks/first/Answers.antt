use Rattle.std.proofs.Common.{◌≡◌, ◌+◌, ℕ, suc, false, List, take, get_or, refl, sym, subst, arith}
use Rattle.std.proofs.Math.Seq.{take-suc}
use Rattle.std.proofs.lemmas.List.{take_all}
use Rattle.record_heap.specs.declared.shape.Place.{Place}
use Rattle.record_heap.specs.Chain.{IsOneOf}
use Rattle.page_walks.specs.SlotMarks.{marked_slot}
use Rattle.page_walks.proofs.MarkAheadLemmas.{none_at_all, page_more}
use Rattle.page_walks.proofs.slot_marks.SlotMarks.first.Goals as goal

pub loop-page-preserved : goal.loop-page-preserved
loop-page-preserved c =
    let m = c.args.self.now in
    let own = m.own.now in
    let k = c.loop-page.page-index in
    let up : k + 1 ≡ suc k = omega arith in
    subst (λ (n : ℕ). (p : Place) → IsOneOf (take n own) p.page → marked_slot m p ≡ false) (sym up)
    (subst (λ (ns : List ℕ). (p : Place) → IsOneOf ns p.page → marked_slot m p ≡ false) (sym (take-suc own k 0 c.loop-page-test.true))
    (page_more m (take k own) (get_or own k 0) c.loop-page.invariant (c.first_of.ensures.none (rw c.in_default.is refl))))

pub returns-clause-none : goal.returns-clause-none
returns-clause-none c = λ _. none_at_all c.args.self.now
    (λ p of. c.loop-page.invariant p (subst (λ (ns : List ℕ). IsOneOf ns p.page) (sym (take_all c.loop-page.page-index c.args.self.now.own.now c.loop-page-test.false)) of))

pub loop-page-init : goal.loop-page-init
loop-page-init c = λ p of. absurd of

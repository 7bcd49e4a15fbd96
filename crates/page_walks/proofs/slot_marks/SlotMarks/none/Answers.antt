use Rattle.std.proofs.Common.{◌≡◌, ◌*◌, ◌≤◌, ℕ, length, ap, refl, arith, subst}
use Rattle.page_walks.proofs.MarkAheadLemmas.{marks_for}
use Rattle.page_walks.proofs.slot_marks.SlotMarks.none.Goals as goal

pub returns-clause-every : goal.returns-clause-every
returns-clause-every c =
    let own = c.args.own.now in
    let width : c.from.result ≡ c.args.room = omega arith in
    marks_for own c.args.room _ refl refl (ap (λ (k : ℕ). length own * k) width) c.in_ok-positions.ensures.are
    (subst (λ (k : ℕ). length own * k ≤ 64 * length c.in_ok-marks.marks.words.items) width c.in_ok-marks.ensures.many)

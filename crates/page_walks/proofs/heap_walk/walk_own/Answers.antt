use Rattle.std.proofs.Common.{◌≡◌, ◌*◌, ℕ, length, ap, refl, sym, subst, ◌∙◌, arith}
use Rattle.pages.specs.PageList.{pages_in}
use Rattle.pages.proofs.RefusedLemmas.{for_memory, handed_on}
use Rattle.record_heap.specs.Slot.{room}
use Rattle.record_heap.specs.Walk.{OwnStands}
use Rattle.page_walks.specs.SlotWalk.{AreMarked, FreeSlotsAhead, OwnAhead}
use Rattle.page_walks.proofs.HeapAheadLemmas.{free_ahead, never_left, own_ahead}
use Rattle.page_walks.proofs.MarkAheadLemmas.{marked_one, still_has}
use Rattle.page_walks.proofs.SlotWalkLemmas.{slots_kept}
use Rattle.pages.specs.declared.walk_fault.WalkFault.{WalkFault}
use Rattle.record_heap.specs.Faults.{AreOwnPages, IsSlotFault, TellsOfChain}
use Rattle.page_walks.proofs.FaultLemmas.{breaks_chain, fault_on, in_slots, left_out}
use Rattle.page_walks.proofs.heap_walk.walk_own.Goals as goal

pub returns-then-are_none-clause-kept : goal.returns-then-are_none-clause-kept
returns-then-are_none-clause-kept g c = λ list has some.
    let heap = c.args.heap.now in
    let w = rw (c.shape-shape.ensures, c.first_free.ensures) at (c.in_ok-walk_slots.ensures.emptied list has) in
    slots_kept heap.shape (pages_in list) c.args.own.now heap.free w.at c.mark_free.new.marks c.walk_slots.new.marks w.free
    (rw c.shape-shape.ensures at (c.in_ok-mark_free.ensures.marked list (c.walk_slots.ensures.before list has))) w.walked w.last (c.are_none.ensures c.if-are_none.true) some

pub returns-clause-kept : goal.returns-clause-kept
returns-clause-kept g c = λ list has some.
    let heap = c.args.heap.now in
    let w = rw (c.shape-shape.ensures, c.first_free.ensures) at (c.in_ok-walk_slots.ensures.emptied list has) in
    slots_kept heap.shape (pages_in list) c.args.own.now heap.free w.at c.mark_free.new.marks c.walk_slots.new.marks w.free
    (rw c.shape-shape.ensures at (c.in_ok-mark_free.ensures.marked list (c.walk_slots.ensures.before list has))) w.walked w.last (c.in-None.ensures.none refl) some

pub returns-in_err-marks-clause-refused : goal.returns-in_err-marks-clause-refused
returns-in_err-marks-clause-refused g c = λ list has.
    let S = OwnStands c.args.heap.now list c.args.own.now in
    handed_on S S c.from_residual.result _ c.from_residual.ensures.1 (λ a. a) (for_memory S _ c.in_err-marks.ensures.memory)

pub returns-in_err-mark_free-clause-refused : goal.returns-in_err-mark_free-clause-refused
returns-in_err-mark_free-clause-refused g c = λ list has.
    let heap = c.args.heap.now in
    let own = c.args.own.now in
    let marks = c.in_ok-marks.marks in
    let width : c.room-room.result ≡ room heap.shape = c.room-room.ensures.value ∙ ap room c.shape-shape.ensures in
    handed_on (OwnAhead heap.shape list own marks) (OwnStands heap list own) c.from_residual-in_err-mark_free.result _ c.from_residual-in_err-mark_free.ensures.1
    (λ a. own_ahead heap list own a marks (λ p of below. c.in_ok-marks.ensures.every.every a.stands.apart p of (omega (arith, width, below))))
    (rw c.shape-shape.ensures at (c.in_err-mark_free.ensures.refused list has))

pub returns-in_err-walk_slots-clause-refused : goal.returns-in_err-walk_slots-clause-refused
returns-in_err-walk_slots-clause-refused g c = λ list has.
    let heap = c.args.heap.now in
    let own = c.args.own.now in
    let marks = c.mark_free.new.marks in
    let width : c.room-room.result ≡ room heap.shape = c.room-room.ensures.value ∙ ap room c.shape-shape.ensures in
    let many : marks.slots ≡ length own * c.room-room.result = c.mark_free.ensures.same.slots ∙ c.in_ok-marks.ensures.every.many in
    let marked : AreMarked heap.shape (pages_in list) own marks = rw c.shape-shape.ensures at (c.in_ok-mark_free.ensures.marked list (c.walk_slots.ensures.before list has)) in
    handed_on (FreeSlotsAhead heap.shape list heap.free marks.slots marks) (OwnStands heap list own) c.from_residual-in_err-walk_slots.result _ c.from_residual-in_err-walk_slots.ensures.1
    (λ a. free_ahead heap list own a marks marks.slots (many ∙ ap (λ (k : ℕ). length own * k) width) marked
    (λ p of below. still_has c.in_ok-marks.marks marks p c.mark_free.ensures.same (c.in_ok-marks.ensures.every.every a.stands.apart p of (omega (arith, width, below)))))
    (rw (c.shape-shape.ensures, c.first_free.ensures) at (c.in_err-walk_slots.ensures.refused list has))

pub returns-in-Some-clause-refused : goal.returns-in-Some-clause-refused
returns-in-Some-clause-refused g c = λ list has a.
    let heap = c.args.heap.now in
    let w = rw (c.shape-shape.ensures, c.first_free.ensures) at (c.in_ok-walk_slots.ensures.emptied list has) in
    let marks = c.walk_slots.new.marks in
    let slot = c.in-Some.slot in
    let low = (marked_one marks slot c.in-Some.ensures.is).slot in
    let width : c.room-room.result ≡ room heap.shape = c.room-room.ensures.value ∙ ap room c.shape-shape.ensures in
    let wide : marks.room ≡ c.room-room.result = c.walk_slots.ensures.same.room ∙ c.mark_free.ensures.same.room ∙ c.in_ok-marks.ensures.every.width in
    let marked : AreMarked heap.shape (pages_in list) c.args.own.now c.mark_free.new.marks = rw c.shape-shape.ensures at (c.in_ok-mark_free.ensures.marked list (c.walk_slots.ensures.before list has)) in
    never_left heap list c.args.own.now a c.mark_free.new.marks marks w.at w.free slot marked w.walked w.last (omega (arith, low, width, wide)) c.in-Some.ensures.is

pub returns-in_err-marks-clause-told : goal.returns-in_err-marks-clause-told
returns-in_err-marks-clause-told g c = λ list has.
    let Told = λ (fault : WalkFault). AreOwnPages list c.args.own.now → TellsOfChain (IsSlotFault c.args.heap.now list c.args.own.now) fault in
    fault_on Told c.from_residual.result _ c.from_residual.ensures.1 (subst Told (sym c.in_err-marks.ensures.memory) (λ pages. tt))

pub returns-in_err-mark_free-clause-told : goal.returns-in_err-mark_free-clause-told
returns-in_err-mark_free-clause-told g c = λ list has.
    let heap = c.args.heap.now in
    let own = c.args.own.now in
    let width : c.room-room.result ≡ room heap.shape = c.room-room.ensures.value ∙ ap room c.shape-shape.ensures in
    fault_on (λ (fault : WalkFault). AreOwnPages list own → TellsOfChain (IsSlotFault heap list own) fault) c.from_residual-in_err-mark_free.result _ c.from_residual-in_err-mark_free.ensures.1
    (λ pages. in_slots heap list own _ ((rw c.shape-shape.ensures at (c.in_err-mark_free.ensures.told list has)) pages
    (λ p of below. c.in_ok-marks.ensures.every.every pages.apart p of (omega (arith, width, below)))))

pub returns-in_err-walk_slots-clause-told : goal.returns-in_err-walk_slots-clause-told
returns-in_err-walk_slots-clause-told g c = λ list has.
    let heap = c.args.heap.now in
    let own = c.args.own.now in
    let marks = c.mark_free.new.marks in
    let width : c.room-room.result ≡ room heap.shape = c.room-room.ensures.value ∙ ap room c.shape-shape.ensures in
    let many : marks.slots ≡ length own * c.room-room.result = c.mark_free.ensures.same.slots ∙ c.in_ok-marks.ensures.every.many in
    let marked : AreMarked heap.shape (pages_in list) own marks = rw c.shape-shape.ensures at (c.in_ok-mark_free.ensures.marked list (c.walk_slots.ensures.before list has)) in
    fault_on (λ (fault : WalkFault). AreOwnPages list own → TellsOfChain (IsSlotFault heap list own) fault) c.from_residual-in_err-walk_slots.result _ c.from_residual-in_err-walk_slots.ensures.1
    (λ pages. breaks_chain heap list own marks marked _ pages
    (λ p of below. still_has c.in_ok-marks.marks marks p c.mark_free.ensures.same (c.in_ok-marks.ensures.every.every pages.apart p of (omega (arith, width, below))))
    (many ∙ ap (λ (k : ℕ). length own * k) width) (rw (c.shape-shape.ensures, c.first_free.ensures) at (c.in_err-walk_slots.ensures.told list has)))

pub returns-in-Some-clause-told : goal.returns-in-Some-clause-told
returns-in-Some-clause-told g c = λ list has pages.
    let heap = c.args.heap.now in
    let own = c.args.own.now in
    let w = rw (c.shape-shape.ensures, c.first_free.ensures) at (c.in_ok-walk_slots.ensures.emptied list has) in
    let marks = c.walk_slots.new.marks in
    let slot = c.in-Some.slot in
    let low = (marked_one marks slot c.in-Some.ensures.is).slot in
    let width : c.room-room.result ≡ room heap.shape = c.room-room.ensures.value ∙ ap room c.shape-shape.ensures in
    let wide : marks.room ≡ c.room-room.result = c.walk_slots.ensures.same.room ∙ c.mark_free.ensures.same.room ∙ c.in_ok-marks.ensures.every.width in
    let marked : AreMarked heap.shape (pages_in list) own c.mark_free.new.marks = rw c.shape-shape.ensures at (c.in_ok-mark_free.ensures.marked list (c.walk_slots.ensures.before list has)) in (
      refl,
      subst (IsSlotFault heap list own) (sym c.place_of.ensures)
          (left_out heap list own c.mark_free.new.marks marked marks w.at w.free slot w.walked w.last (omega (arith, low, width, wide)) c.in-Some.ensures.is),
    )

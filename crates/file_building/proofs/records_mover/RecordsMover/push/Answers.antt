use Rattle.std.proofs.Common.{◌≡◌, ◌≢◌, ◌++◌, refl}
use Rattle.tree_search.proofs.AnswerLemmas.{fails}
use Rattle.record_heap.specs.declared.shape.Place.{Place}
use Rattle.file_building.specs.declared.records_mover.RecordsMover.{RecordsMover}
use Rattle.file_building.specs.NewPlaces.{new_place}
use Rattle.file_building.proofs.StepLemmas.{StepLaws, heap_cause, handed_on, if_err}
use Rattle.file_building.proofs.MoverLemmas.{both_known, memory_cause, moved_more}
use Rattle.file_building.proofs.records_mover.RecordsMover.push.Goals as goal

pub returns-in_err-place-clause-moves : goal.returns-in_err-place-clause-moves
returns-in_err-place-clause-moves g c = record {
  moved = λ honest sound slots primes start h is.
      fails _ _ _ c.from_residual.ensures.1 (c.in_err-place.ensures.pushed honest sound h.now h.own h.order h.filling).answer.no_damage;
  same = record { slots_are = c.push.ensures.shape; room_is = refl };
}

pub returns-in_err-place-clause-keeps : goal.returns-in_err-place-clause-keeps
returns-in_err-place-clause-keeps g c =
    let laws : StepLaws g.P.Pages.shown = record { nothing = g.met.P.Pages.writes_nothing; on = g.met.P.Pages.writes_on; failed_before = g.met.P.Pages.failed_before; failed_after = g.met.P.Pages.failed_after } in
    let writes = c.in_err-place.ensures.writes in
    record {
      cause = handed_on _ _ _ c.from_residual.ensures.1 (heap_cause g.P.Pages.shown laws c.args.pages.now c.push.new.pages _ writes.step (λ lacks. lacks.1) _ writes.cause);
      step = writes.step;
    }

pub returns-clause-moves : goal.returns-clause-moves
returns-clause-moves g c =
    let before = (g.P.Pages.shown.state c.args.pages.now).live in
    let after = (g.P.Pages.shown.state c.push.new.pages).live in
    let old = c.args.self.now in
    let new : RecordsMover = record { heap = c.push.new.self; places = c.put.new.self } in
    let to = c.in_ok-place.place in
    record {
      moved = λ honest sound slots primes start h is.
          let filled = c.in_ok-place.ensures.pushed honest sound h.now h.own h.order h.filling in
          let free = filled.answer.answer.0 in
          let on = filled.answer.answer.1 in
          both_known c.put.result (new_place new.places c.args.old ≡ to) ((p : Place) → p ≢ c.args.old → new_place new.places p ≡ new_place old.places p) _
          (λ put others. (moved_more slots primes old new start before after h c.args.old to (c.args.stamps.now ++ c.args.bytes.now) is free on.own_now _ on.filling put others on.changes, filled.sound))
          (c.put.ensures.put is.within) c.put.ensures.others;
      same = record { slots_are = c.push.ensures.shape; room_is = c.put.ensures.room };
    }

pub returns-clause-keeps : goal.returns-clause-keeps
returns-clause-keeps g c = record {
  cause = if_err c.put.result _ _ (λ fault is. memory_cause _ _ fault is) c.put.ensures.cause;
  step = c.push.ensures.writes.step;
}

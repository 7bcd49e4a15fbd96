use Rattle.std.proofs.Common.{[]}
use Rattle.tree_search.proofs.AnswerLemmas.{fails}
use Rattle.bplus_tree.proofs.RemoveLemmas.{changes_trans}
use Rattle.file_building.proofs.StepLemmas.{StepLaws, heap_cause, handed_on}
use Rattle.file_building.proofs.records_mover.RecordsMover.finish.Goals as goal

pub returns-in_err-heap-clause-finishes : goal.returns-in_err-heap-clause-finishes
returns-in_err-heap-clause-finishes g c = record {
  finished = λ honest sound slots primes entries start h known.
      fails _ _ _ c.from_residual.ensures.1 (c.in_err-heap.ensures.finished honest sound h.now h.own h.order h.filling).answer.no_damage;
}

pub returns-in_err-heap-clause-keeps : goal.returns-in_err-heap-clause-keeps
returns-in_err-heap-clause-keeps g c =
    let laws : StepLaws g.P.Pages.shown = record { nothing = g.met.P.Pages.writes_nothing; on = g.met.P.Pages.writes_on; failed_before = g.met.P.Pages.failed_before; failed_after = g.met.P.Pages.failed_after } in
    let writes = c.in_err-heap.ensures.writes in
    record {
      cause = handed_on _ _ _ c.from_residual.ensures.1 (heap_cause g.P.Pages.shown laws c.args.pages.now c.finish.new.pages _ writes.step (λ never. absurd never) _ writes.cause);
      step = writes.step;
    }

pub returns-clause-finishes : goal.returns-clause-finishes
returns-clause-finishes g c = record {
  finished = λ honest sound slots primes entries start h known.
      let first = c.in_ok-heap.ensures.finished honest sound h.now h.own h.order h.filling in
      let filled = first.answer.answer.1 in
      record {
        answer = (
          record {
            now = h.now;
            own = h.own;
            stands = filled.stands;
            shape_is = first.answer.answer.0;
            changes = changes_trans start (g.P.Pages.shown.state c.args.pages.now).live (g.P.Pages.shown.state c.finish.new.pages).live [] h.own h.own h.changes filled.changes;
            moved = h.moved;
            known = known;
          },
          first.sound,
        );
        no_damage = tt;
      };
}

pub returns-clause-keeps : goal.returns-clause-keeps
returns-clause-keeps g c = record { cause = tt; step = c.finish.ensures.writes.step }

use Rattle.std.proofs.Common.{false}
use Rattle.file_building.specs.Steps.{RanOutOfPages}
use Rattle.file_building.proofs.StepLemmas.{StepLaws, index_cause}
use Rattle.file_building.proofs.CopiedStepLemmas.{reading_cause}
use Rattle.file_building.proofs.LeadLemmas.{all_led, index_since, rise_led}
use Rattle.file_building.proofs.leading.end_leading.Goals as goal

pub returns-in-Err-clause-ends : goal.returns-in-Err-clause-ends
returns-in-Err-clause-ends g c = record {
  ended = λ hf ht sound index places start entries width h each rise.
      let at = (all_led index places c.args.walk.now c.args.builder (g.P.Pages.shown.state c.args.from.now).live start (g.Q.Pages.shown.state c.args.to.now).live entries h).1 in
      record { answer = tt; no_damage = (c.in-Err.ensures.ends hf at.given at.own at.walked).no_damage };
  width = tt;
}

pub returns-in-Err-clause-keeps : goal.returns-in-Err-clause-keeps
returns-in-Err-clause-keeps g c = record {
  cause = reading_cause false (g.P.Pages.shown.HasFailed c.args.from.now c.end.new.pages) (g.Q.Pages.shown.HasFailed c.args.to.now c.args.to.now)
      (RanOutOfPages g.Q.Pages.shown c.args.to.now c.args.to.now) c.in-Err.fault c.in-Err.ensures.reads.cause;
  reads = c.in-Err.ensures.reads.step;
  writes = g.met.Q.Pages.writes_nothing c.args.to.now;
}

pub returns-in-Ok-clause-ends : goal.returns-in-Ok-clause-ends
returns-in-Ok-clause-ends g c = record {
  ended = λ hf ht sound index places start entries width h each rise.
      let before = (g.Q.Pages.shown.state c.args.to.now).live in
      let after = (g.Q.Pages.shown.state c.finish.new.pages).live in
      let on = (all_led index places c.args.walk.now c.args.builder (g.P.Pages.shown.state c.args.from.now).live start before entries h).0 in
      let ends = c.in-Ok.ensures.finishes ht sound in
      record {
        answer = (index_since start before after c.args.builder c.in-Ok.index _ _ _ on (ends.finished _ on.own_now on.building (rise_led index c.args.builder places before entries on.own_now width on.building each rise)).answer, ends.sound);
        no_damage = tt;
      };
  width = c.in-Ok.ensures.width;
}

pub returns-in-Err-finish-clause-ends : goal.returns-in-Err-finish-clause-ends
returns-in-Err-finish-clause-ends g c = record {
  ended = λ hf ht sound index places start entries width h each rise.
      let before = (g.Q.Pages.shown.state c.args.to.now).live in
      let on = (all_led index places c.args.walk.now c.args.builder (g.P.Pages.shown.state c.args.from.now).live start before entries h).0 in
      record {
        answer = tt;
        no_damage = ((c.in-Err-finish.ensures.finishes ht sound).finished _ on.own_now on.building (rise_led index c.args.builder places before entries on.own_now width on.building each rise)).no_damage;
      };
  width = tt;
}

pub returns-in-Err-finish-clause-keeps : goal.returns-in-Err-finish-clause-keeps
returns-in-Err-finish-clause-keeps g c =
    let laws : StepLaws g.Q.Pages.shown = record { nothing = g.met.Q.Pages.writes_nothing; on = g.met.Q.Pages.writes_on; failed_before = g.met.Q.Pages.failed_before; failed_after = g.met.Q.Pages.failed_after } in
    let takes = c.in-Err-finish.ensures.takes in
    record {
      cause = index_cause g.Q.Pages.shown laws c.args.to.now c.finish.new.pages takes.step c.in-Err-finish.fault takes.cause;
      reads = c.end.ensures.reads.step;
      writes = takes.step;
    }

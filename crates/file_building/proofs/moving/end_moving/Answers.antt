use Rattle.std.proofs.Common.{false}
use Rattle.file_building.specs.Steps.{RanOutOfPages}
use Rattle.file_building.proofs.CopiedStepLemmas.{reading_cause}
use Rattle.file_building.proofs.MovingLemmas.{all_moved}
use Rattle.file_building.proofs.moving.end_moving.Goals as goal

pub returns-in-Err-clause-ends : goal.returns-in-Err-clause-ends
returns-in-Err-clause-ends g c = record {
  ended = λ hf ht sound index slots primes entries start h.
      let at = (all_moved index c.args.walk.now c.args.mover (g.P.Pages.shown.state c.args.from.now).live start (g.Q.Pages.shown.state c.args.to.now).live slots primes entries h).end in
      record { answer = tt; no_damage = (c.in-Err.ensures.ends hf at.given at.own at.walked).no_damage };
}

pub returns-in-Err-clause-keeps : goal.returns-in-Err-clause-keeps
returns-in-Err-clause-keeps g c = record {
  cause = reading_cause false (g.P.Pages.shown.HasFailed c.args.from.now c.end.new.pages) (g.Q.Pages.shown.HasFailed c.args.to.now c.args.to.now)
      (RanOutOfPages g.Q.Pages.shown c.args.to.now c.args.to.now) c.in-Err.fault c.in-Err.ensures.reads.cause;
  reads = c.in-Err.ensures.reads.step;
  writes = g.met.Q.Pages.writes_nothing c.args.to.now;
}

pub returns-in-Ok-clause-ends : goal.returns-in-Ok-clause-ends
returns-in-Ok-clause-ends g c = record {
  ended = λ hf ht sound index slots primes entries start h.
      let all = all_moved index c.args.walk.now c.args.mover (g.P.Pages.shown.state c.args.from.now).live start (g.Q.Pages.shown.state c.args.to.now).live slots primes entries h in
      record { answer = (c.in-Ok.ensures.finishes.finished ht sound slots primes entries start all.holds all.known).answer; no_damage = tt };
}

pub returns-in-Err-finish-clause-ends : goal.returns-in-Err-finish-clause-ends
returns-in-Err-finish-clause-ends g c = record {
  ended = λ hf ht sound index slots primes entries start h.
      let all = all_moved index c.args.walk.now c.args.mover (g.P.Pages.shown.state c.args.from.now).live start (g.Q.Pages.shown.state c.args.to.now).live slots primes entries h in
      record { answer = tt; no_damage = (c.in-Err-finish.ensures.finishes.finished ht sound slots primes entries start all.holds all.known).no_damage };
}

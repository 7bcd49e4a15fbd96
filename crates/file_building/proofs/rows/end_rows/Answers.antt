use Rattle.std.proofs.Common.{false}
use Rattle.open_file.specs.Fields.{file_schema}
use Rattle.file_building.specs.Steps.{RanOutOfPages}
use Rattle.file_building.proofs.CopiedStepLemmas.{reading_cause}
use Rattle.file_building.proofs.CopiedLemmas.{walk_end, all_copied}
use Rattle.file_building.proofs.RisingLemmas.{file_rises}
use Rattle.file_building.proofs.rows.end_rows.Goals as goal

pub returns-in-Err-clause-ends : goal.returns-in-Err-clause-ends
returns-in-Err-clause-ends g c = record {
  ended = λ hf ht sound source file is h.
      let at = walk_end source c.args.walk.now c.args.rows (g.P.Pages.shown.state c.args.from.now).live (g.Q.Pages.shown.state c.args.to.now).live file.rows h in
      record { answer = tt; no_damage = (c.in-Err.ensures.ends hf at.given at.own at.walked).no_damage };
  width = tt;
}

pub returns-in-Err-clause-keeps : goal.returns-in-Err-clause-keeps
returns-in-Err-clause-keeps g c = record {
  cause = reading_cause false (g.P.Pages.shown.HasFailed c.args.from.now c.end.new.pages) (g.Q.Pages.shown.HasFailed c.args.to.now c.args.to.now)
      (RanOutOfPages g.Q.Pages.shown c.args.to.now c.args.to.now) c.in-Err.fault c.in-Err.ensures.reads.cause;
  reads = c.in-Err.ensures.reads.step;
  writes = g.met.Q.Pages.writes_nothing c.args.to.now;
}

pub returns-in-Ok-clause-ends : goal.returns-in-Ok-clause-ends
returns-in-Ok-clause-ends g c = record {
  ended = λ hf ht sound source file is h.
      let all = all_copied source c.args.walk.now c.args.rows (g.P.Pages.shown.state c.args.from.now).live (g.Q.Pages.shown.state c.args.to.now).live file.rows h in
      record { answer = (c.in-Ok.ensures.finishes.finished ht sound (file_schema source) file.rows (file_rises (file_schema source) file is) all).answer; no_damage = tt };
  width = c.in-Ok.ensures.width;
}

pub returns-in-Err-finish-clause-ends : goal.returns-in-Err-finish-clause-ends
returns-in-Err-finish-clause-ends g c = record {
  ended = λ hf ht sound source file is h.
      let all = all_copied source c.args.walk.now c.args.rows (g.P.Pages.shown.state c.args.from.now).live (g.Q.Pages.shown.state c.args.to.now).live file.rows h in
      record { answer = tt; no_damage = (c.in-Err-finish.ensures.finishes.finished ht sound (file_schema source) file.rows (file_rises (file_schema source) file is) all).no_damage };
  width = tt;
}

use Rattle.std.proofs.Common.{sym, ◌∙◌}
use Rattle.streams.proofs.FaultLemmas.{faults_more, count_within, ends_more}
use Rattle.streams.proofs.fault_lines.FaultLines.pass.Goals as goal

pub returns-in-Ok : goal.returns-in-Ok
returns-in-Ok c = λ before h. record {
  counted = h.counted ∙ sym (count_within before c.args.bytes.now c.requires);
  line = λ fits. rw c.in-Ok.ensures.ok (ends_more before c.args.self.now.line.items c.args.bytes.now (h.line fits));
  firsts = faults_more before c.args.bytes.now c.args.self.now.firsts.items h.firsts;
}

pub returns-in-Err : goal.returns-in-Err
returns-in-Err c = λ before h. record {
  counted = h.counted ∙ sym (count_within before c.args.bytes.now c.requires);
  line = λ fits. absurd (cc);
  firsts = faults_more before c.args.bytes.now c.args.self.now.firsts.items h.firsts;
}

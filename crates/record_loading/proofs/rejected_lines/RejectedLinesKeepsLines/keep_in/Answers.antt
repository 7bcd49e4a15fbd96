use Rattle.std.proofs.Common.{inl, inr, subst}
use Rattle.record_loading.specs.Kept.{IsAllKept}
use Rattle.record_loading.proofs.rejected_lines.RejectedLinesKeepsLines.keep_in.Goals as goal

pub returns : goal.returns
returns g c = λ whole. elim c.begin.ensures [ inl all ↦ all | inr not ↦ absurd (subst IsAllKept not (c.is_whole.ensures whole)) ]

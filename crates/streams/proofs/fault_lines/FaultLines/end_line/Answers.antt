use Rattle.std.proofs.Common.{[], ◌∷◌, ◌++◌, sym, ◌∙◌}
use Rattle.streams.proofs.FaultLemmas.{number_is, count_lf, ends_empty}
use Rattle.streams.proofs.fault_lines.FaultLines.end_line.Goals as goal

pub returns : goal.returns
returns c = λ before h.
    let numbered = number_is before c.args.self.now.lines c.saturating_add-number.result c.saturating_add-number.ensures h.counted in
    record {
      counted = numbered ∙ sym (count_lf before);
      line = λ fits. rw c.clear.ensures (ends_empty (before ++ 10 ∷ []));
      firsts = c.keep.ensures before h numbered;
    }

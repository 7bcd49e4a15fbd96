use Rattle.std.proofs.Common.{◌||◌, ap, sym, ◌∙◌}
use Rattle.streams.specs.LineEnds.{is_failed_end}
use Rattle.streams.proofs.EndLemmas.{window_more, failed_more}
use Rattle.streams.proofs.line_ends.LineEnds.note_byte.Goals as goal

pub returns-then-self : goal.returns-then-self
returns-then-self c = λ before h. let s = c.args.self.now in record {
  window = window_more before s.third s.second s.last c.args.byte h.window;
  failed = c.if-self.true ∙ sym (failed_more before s.third s.second s.last c.args.byte h.window
      ∙ ap (λ f. f || is_failed_end s.third s.second s.last c.args.byte) (sym h.failed ∙ c.if-self.true));
}

pub returns-else-self : goal.returns-else-self
returns-else-self c = λ before h. let s = c.args.self.now in record {
  window = window_more before s.third s.second s.last c.args.byte h.window;
  failed = c.fails_by-fails.ensures ∙ sym (failed_more before s.third s.second s.last c.args.byte h.window
      ∙ ap (λ f. f || is_failed_end s.third s.second s.last c.args.byte) (sym h.failed ∙ c.if-self.false));
}

use Rattle.std.proofs.Common.{rules, List, ℕ, ◌++◌, sym, ap, ◌∙◌, refl, drop}
use Rattle.record_text.proofs.ShownLemmas.{shown_apart}
use Rattle.record_text.proofs.QuotedLemmas.{no_doubled, doubled_other}
use Rattle.record_text.proofs.quoted.first_doubled.Goals as goal

pub returns-in_err-first : goal.returns-in_err-first
returns-in_err-first c = record {
  byte = search rules;
  shown = search rules;
  none = λ _. no_doubled c.args.text.now (c.is_pair.ensures.no c.if-is_pair.false) (λ byte rest is_byte other is. c.in_err-first.ensures.none refl byte rest is_byte is);
}

pub returns-then-first-eq34 : goal.returns-then-first-eq34
returns-then-first-eq34 c =
    let first = c.in_ok-first.first in
    record {
      byte = search rules;
      shown = search rules;
      none = λ _.
          no_doubled c.args.text.now (c.is_pair.ensures.no c.if-is_pair.false)
          (λ byte rest is_byte other is. other (sym (shown_apart first.byte byte (drop first.size c.args.text.now) rest (sym c.in_ok-first.ensures.shown.0 ∙ is)).0 ∙ c.if-first-eq34.true));
    }

pub returns : goal.returns
returns c =
    let first = c.in_ok-first.first in
    record {
      byte = c.in_ok-first.ensures.byte;
      shown = (c.in_ok-first.ensures.shown.0 ∙ ap (λ (l : List ℕ). l ++ drop first.size c.args.text.now) (sym (doubled_other first.byte c.if-first-eq34.false)), c.in_ok-first.ensures.shown.1);
      none = λ is. absurd (cc);
    }

use Rattle.std.proofs.Common.{◌==◌, length, sym, ◌∙◌}
use Rattle.deck_parser.specs.Name.{is_reserved, reserved_words}
use Rattle.deck_parser.proofs.LengthLemmas.{by_length, is_length, is_longer, longer}
use Rattle.deck_parser.proofs.name.is_reserved_text.Goals as goal

pub returns-then-length-eq2 : goal.returns-then-length-eq2
unfolding is_reserved
returns-then-length-eq2 c = c.is_in.ensures ∙ sym (by_length (λ k. k == 2) c.args.text.now (is_length (length c.args.text.now) 2 c.if-length-eq2.true) reserved_words)

pub returns-then-length-eq3 : goal.returns-then-length-eq3
unfolding is_reserved
returns-then-length-eq3 c = c.is_in-then-length-eq3.ensures ∙ sym (by_length (λ k. k == 3) c.args.text.now (is_length (length c.args.text.now) 3 c.if-length-eq3.true) reserved_words)

pub returns-then-length-eq4 : goal.returns-then-length-eq4
unfolding is_reserved
returns-then-length-eq4 c = c.is_in-then-length-eq4.ensures ∙ sym (by_length (λ k. k == 4) c.args.text.now (is_length (length c.args.text.now) 4 c.if-length-eq4.true) reserved_words)

pub returns-then-length-eq5 : goal.returns-then-length-eq5
unfolding is_reserved
returns-then-length-eq5 c = c.is_in-then-length-eq5.ensures ∙ sym (by_length (λ k. k == 5) c.args.text.now (is_length (length c.args.text.now) 5 c.if-length-eq5.true) reserved_words)

pub returns-then-length-eq6 : goal.returns-then-length-eq6
unfolding is_reserved
returns-then-length-eq6 c = c.is_in-then-length-eq6.ensures ∙ sym (by_length (λ k. k == 6) c.args.text.now (is_length (length c.args.text.now) 6 c.if-length-eq6.true) reserved_words)

pub returns-then-length-eq7 : goal.returns-then-length-eq7
unfolding is_reserved
returns-then-length-eq7 c = c.is_in-then-length-eq7.ensures ∙ sym (by_length (λ k. k == 7) c.args.text.now (is_length (length c.args.text.now) 7 c.if-length-eq7.true) reserved_words)

pub returns-else-length-eq7 : goal.returns-else-length-eq7
unfolding is_reserved
returns-else-length-eq7 c = c.is_in-else-length-eq7.ensures ∙ sym (by_length is_longer c.args.text.now (longer (length c.args.text.now) c.if-length-eq2.false c.if-length-eq3.false c.if-length-eq4.false c.if-length-eq5.false c.if-length-eq6.false c.if-length-eq7.false) reserved_words)

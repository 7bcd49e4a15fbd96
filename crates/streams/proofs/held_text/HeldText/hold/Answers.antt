use Rattle.std.proofs.lemmas.Result.{on_ok_weaker, on_err_weaker}
use Rattle.streams.proofs.OutputLemmas.{passed, in_front, in_text}
use Rattle.streams.proofs.held_text.HeldText.hold.Goals as goal

pub returns-then-text-le-HELD_LIMIT-clause-refused :
    goal.returns-then-text-le-HELD_LIMIT-clause-refused
returns-then-text-le-HELD_LIMIT-clause-refused g c =
    on_err_weaker c.add.result (in_front (g.W.Write.contents c.args.out.now) (g.W.Write.contents c.add.new.out) c.args.self.now c.args.text.now) c.add.ensures.refused

pub returns-in-Err-clause-refused : goal.returns-in-Err-clause-refused
returns-in-Err-clause-refused g c = in_front (g.W.Write.contents c.args.out.now) (g.W.Write.contents c.hand_over.new.out) c.args.self.now c.args.text.now c.in-Err.ensures.refused

pub returns-in-Ok-clause-held : goal.returns-in-Ok-clause-held
returns-in-Ok-clause-held g c =
    on_ok_weaker c.write_text.result
    (passed (g.W.Write.contents c.args.out.now) (g.W.Write.contents c.hand_over.new.out) (g.W.Write.contents c.write_text.new.out) c.args.self.now c.hand_over.new.self c.args.text.now c.in-Ok.ensures.empty c.in-Ok.ensures.written)
    c.write_text.ensures.written

pub returns-in-Ok-clause-refused : goal.returns-in-Ok-clause-refused
returns-in-Ok-clause-refused g c =
    on_err_weaker c.write_text.result
    (in_text (g.W.Write.contents c.args.out.now) (g.W.Write.contents c.hand_over.new.out) (g.W.Write.contents c.write_text.new.out) c.args.self.now c.args.text.now c.in-Ok.ensures.written)
    c.write_text.ensures.refused

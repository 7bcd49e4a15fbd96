use Rattle.record_listing.proofs.ReadingLemmas.{handed, not_handed, still_refused}
use Rattle.record_listing.proofs.rows.hand_over.Goals as goal

pub returns-then-is_refused-clause-written : goal.returns-then-is_refused-clause-written
returns-then-is_refused-clause-written g c form rows before out = still_refused form rows before (g.W.Write.contents c.args.out.now) c.args.lines.now c.args.held (c.is_refused.ensures.yes c.if-is_refused.true) out

pub returns-in-Ok-clause-written : goal.returns-in-Ok-clause-written
returns-in-Ok-clause-written g c form rows before out =
    handed form rows before (g.W.Write.contents c.args.out.now) (g.W.Write.contents c.hand_over.new.out) c.args.lines.now c.args.held (c.is_refused.ensures.no c.if-is_refused.false) out c.in-Ok.ensures.written

pub returns-in-Err-clause-written : goal.returns-in-Err-clause-written
returns-in-Err-clause-written g c form rows before out =
    not_handed form rows before (g.W.Write.contents c.args.out.now) (g.W.Write.contents c.hand_over.new.out) c.args.lines.now c.args.held (c.is_refused.ensures.no c.if-is_refused.false) out c.in-Err.ensures.refused

use Rattle.file_reports.proofs.FirstLemmas.{told_same}
use Rattle.file_reports.proofs.comparing.compare_header.Goals as goal

pub returns-then-same-clause-told : goal.returns-then-same-clause-told
returns-then-same-clause-told g c =
    told_same (g.W.Write.contents c.args.out.now) c.args.header.now c.args.deck.now c.same.result c.same.ensures.same c.if-same.true

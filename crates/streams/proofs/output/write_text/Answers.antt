use Rattle.streams.proofs.OutputLemmas.{more_written}
use Rattle.streams.proofs.output.write_text.Goals as goal

pub more-preserved : goal.more-preserved
more-preserved g c =
    rw c.split_at.ensures.back (more_written (g.W.Write.contents c.args.out.now) (g.W.Write.contents c.more.out) (g.W.Write.contents c.offer.new.out) c.args.text.now c.more.rest.now c.in-Some.n c.more.invariant c.in-Some.ensures.took.2)

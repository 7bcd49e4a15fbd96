use Rattle.pages.proofs.ChunkLemmas.{remove_is}
use Rattle.pages.proofs.chunks.remove.Goals as goal

pub returns : goal.returns
returns c =
    rw c.copy_within.ensures.after
    (remove_is c.args.bytes.now c.args.size c.args.count c.args.i c.requires.place c.requires.room)

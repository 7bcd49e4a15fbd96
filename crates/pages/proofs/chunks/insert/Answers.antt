use Rattle.pages.proofs.ChunkLemmas.{insert_is}
use Rattle.pages.proofs.chunks.insert.Goals as goal

pub returns : goal.returns
returns c =
    rw (c.copy_from_slice.ensures.after, c.copy_within.ensures.after)
    (insert_is c.args.bytes.now c.args.chunk.now c.args.size c.args.count c.args.i c.requires.place c.requires.room c.requires.size)

use Rattle.std.proofs.Common.{refl, arith}
use Rattle.page_alloc.proofs.JoinLemmas.{reads_after, reordered}
use Rattle.page_alloc.proofs.file_pages.FilePagesPages.demote.Goals as goal

pub returns-clause-reads : goal.returns-clause-reads
returns-clause-reads g c =
    let old = c.args.self.now.file.now in
    let s = g.S.Shelf.state c.args.self.now.shelf.now in
    let e = c.demote.new.self in
    let same = c.demote.ensures.same in
    let again = same.asked in
    let kept = reordered old.cache e s c.requires.ready.joined.over same in
    (refl, refl, reads_after old (record old { cache = e }) s s _ _ refl refl kept.0 kept.1 (omega arith) (omega arith))

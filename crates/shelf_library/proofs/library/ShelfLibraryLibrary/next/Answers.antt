use Rattle.indexed_file.specs.Rank.{admits}
use Rattle.shelf_library.proofs.StateLemmas.{library_state, is_item}
use Rattle.shelf_library.proofs.OpenedLemmas.{must_be_open, reads_at, may_read}
use Rattle.shelf_library.proofs.ReadingLemmas.{reads_units}
use Rattle.shelf_library.proofs.LimitLemmas.{limits_read}
use Rattle.shelf_library.proofs.FoundLemmas.{finds_row}
use Rattle.shelf_library.proofs.library.ShelfLibraryLibrary.next.Goals as goal

pub index_mut-requires : goal.index_mut-requires
index_mut-requires g c = is_item g.S.Shelf c.args.self.now c.args.u c.requires.attached

pub next-requires : goal.next-requires
next-requires g c =
    may_read g.S.Shelf c.args.self.now c.args.u c.requires.attached c.index_mut.result.now c.index_mut.ensures.value
    c.in-Opened.file c.in-Opened.is c.args.k c.args.area.now c.requires.key c.requires.length

pub unreachable-requires : goal.unreachable-requires
unreachable-requires g c =
    must_be_open g.S.Shelf c.args.self.now c.args.u c.requires.attached c.index_mut.result.now c.index_mut.ensures.value
    c.requires.opened c.in_default.not-Opened

pub invariant_of-self : goal.invariant_of-self
invariant_of-self g c =
    let s = c.args.self.now in
    let call =
    reads_at g.S.Shelf s c.args.u c.requires.attached c.index_mut.result.now c.index_mut.ensures.value c.in-Opened.file c.in-Opened.is
    c.next.new.self c.next.new.shelf c.next.ensures.reads.step g.met.S.Shelf.reads_an_image in
    let after = reads_units _ _ _ _ _ call in
    record { room = s.room; many = after.many; fit = after; limits = limits_read _ _ _ _ _ call _ _ s.limits }

pub returns : goal.returns
returns g c =
    let s = c.args.self.now in
    let call =
    reads_at g.S.Shelf s c.args.u c.requires.attached c.index_mut.result.now c.index_mut.ensures.value c.in-Opened.file c.in-Opened.is
    c.next.new.self c.next.new.shelf c.next.ensures.reads.step g.met.S.Shelf.reads_an_image in
    finds_row (library_state g.S.Shelf) s _ c.args.u c.in-Opened.file c.next.new.self call
    c.args.k (λ schema. admits schema c.args.k c.args.position.now)
    c.args.area.now c.next.new.area c.next.result c.next.ensures.finds c.next.ensures.reads

use Rattle.shelf_library.proofs.Terms.{most_to_seek, room_of_held}
use Rattle.shelf_library.proofs.StateLemmas.{library_state, is_item}
use Rattle.shelf_library.proofs.OpenedLemmas.{must_be_open, may_call, reads_at}
use Rattle.shelf_library.proofs.ReadingLemmas.{reads_units}
use Rattle.shelf_library.proofs.ReadsLemmas.{reads_unit}
use Rattle.shelf_library.proofs.FoundLemmas.{highest_found, highest_undamaged}
use Rattle.shelf_library.proofs.LimitLemmas.{limits_read}
use Rattle.shelf_library.proofs.library.ShelfLibraryLibrary.highest.Goals as goal

pub index_mut-requires : goal.index_mut-requires
index_mut-requires g c = is_item g.S.Shelf c.args.self.now c.args.u c.requires.attached

pub highest-requires : goal.highest-requires
highest-requires g c =
    let s = c.args.self.now in
    record {
      ready = may_call g.S.Shelf s c.args.u c.requires.attached c.index_mut.result.now c.index_mut.ensures.value
          c.in-Opened.file c.in-Opened.is;
    }

pub unreachable-requires : goal.unreachable-requires
unreachable-requires g c =
    must_be_open g.S.Shelf c.args.self.now c.args.u c.requires.attached c.index_mut.result.now c.index_mut.ensures.value
    c.requires.opened c.in_default.not-Opened

pub invariant_of-self : goal.invariant_of-self
invariant_of-self g c =
    let s = c.args.self.now in
    let call =
    reads_at g.S.Shelf s c.args.u c.requires.attached c.index_mut.result.now c.index_mut.ensures.value c.in-Opened.file c.in-Opened.is
    c.highest.new.self c.highest.new.shelf c.highest.ensures.reads.step g.met.S.Shelf.reads_an_image in
    let after = reads_units _ _ _ _ _ call in
    record { room = s.room; many = after.many; fit = after; limits = limits_read _ _ _ _ _ call _ _ s.limits }

pub returns-clause-found : goal.returns-clause-found
returns-clause-found g c honest truly =
    let s = c.args.self.now in
    let call =
    reads_at g.S.Shelf s c.args.u c.requires.attached c.index_mut.result.now c.index_mut.ensures.value c.in-Opened.file c.in-Opened.is
    c.highest.new.self c.highest.new.shelf c.highest.ensures.reads.step g.met.S.Shelf.reads_an_image in
    highest_found _ _ _ _ _ call truly c.highest.result
    c.highest.ensures.reads.broken (c.highest.ensures.found honest)

pub returns-clause-reads : goal.returns-clause-reads
returns-clause-reads g c =
    let s = c.args.self.now in
    let call =
    reads_at g.S.Shelf s c.args.u c.requires.attached c.index_mut.result.now c.index_mut.ensures.value c.in-Opened.file c.in-Opened.is
    c.highest.new.self c.highest.new.shelf c.highest.ensures.reads.step g.met.S.Shelf.reads_an_image in
    reads_unit (library_state g.S.Shelf) s _ c.args.u c.in-Opened.file c.highest.new.self call (λ one. most_to_seek (room_of_held one) 0)
    c.highest.result c.highest.ensures.reads.asked c.highest.ensures.reads.broken c.highest.ensures.reads.cause
    (λ honest truly. highest_undamaged _ _ _ _ _ call truly c.highest.result
    c.highest.ensures.reads.broken (c.highest.ensures.found honest))

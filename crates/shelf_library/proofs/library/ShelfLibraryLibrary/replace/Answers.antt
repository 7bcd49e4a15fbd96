use Rattle.indexed_file.specs.FileChange.{replacement}
use Rattle.shelf_library.proofs.StateLemmas.{library_state, is_item}
use Rattle.shelf_library.proofs.OpenedLemmas.{must_be_open, moves_at, may_write}
use Rattle.shelf_library.proofs.ChangingLemmas.{units_after}
use Rattle.shelf_library.proofs.ChangesLemmas.{changes_unit}
use Rattle.shelf_library.proofs.LimitLemmas.{limits_moved}
use Rattle.shelf_library.proofs.library.ShelfLibraryLibrary.replace.Goals as goal

pub index_mut-requires : goal.index_mut-requires
index_mut-requires g c = is_item g.S.Shelf c.args.self.now c.args.u c.requires.attached

pub replace-requires : goal.replace-requires
replace-requires g c =
    may_write g.S.Shelf c.args.self.now c.args.u c.requires.attached c.index_mut.result.now c.index_mut.ensures.value
    c.in-Opened.file c.in-Opened.is c.args.bytes.now c.requires.least c.requires.greatest

pub unreachable-requires : goal.unreachable-requires
unreachable-requires g c =
    must_be_open g.S.Shelf c.args.self.now c.args.u c.requires.attached c.index_mut.result.now c.index_mut.ensures.value
    c.requires.opened c.in_default.not-Opened

pub invariant_of-self : goal.invariant_of-self
invariant_of-self g c =
    let s = c.args.self.now in
    let call =
    moves_at g.S.Shelf s c.args.u c.requires.attached c.index_mut.result.now c.index_mut.ensures.value c.in-Opened.file c.in-Opened.is
    c.replace.new.self c.replace.new.shelf c.replace.ensures.changes.keeps.begins c.replace.ensures.changes.keeps.ready
    g.met.S.Shelf.reads_an_image in
    let after = units_after _ _ _ _ _ call in
    record { room = s.room; many = after.many; fit = after; limits = limits_moved _ _ _ _ _ call _ _ s.limits }

pub returns : goal.returns
returns g c =
    let s = c.args.self.now in
    let call =
    moves_at g.S.Shelf s c.args.u c.requires.attached c.index_mut.result.now c.index_mut.ensures.value c.in-Opened.file c.in-Opened.is
    c.replace.new.self c.replace.new.shelf c.replace.ensures.changes.keeps.begins c.replace.ensures.changes.keeps.ready
    g.met.S.Shelf.reads_an_image in
    changes_unit (library_state g.S.Shelf) s _ c.args.u c.in-Opened.file c.replace.new.self call
    (λ schema. replacement schema c.args.bytes.now) c.replace.result c.replace.ensures

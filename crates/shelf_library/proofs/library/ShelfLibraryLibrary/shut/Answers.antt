use Rattle.std.proofs.Common.{◌∙◌}
use Rattle.shelf_library.proofs.StateLemmas.{library_state, closes_at, is_item}
use Rattle.shelf_library.proofs.OpenedLemmas.{taken, must_be_open}
use Rattle.shelf_library.proofs.ShutLemmas.{units_after, shut_ok, shut_err, shut_broken, shut_unchanged, shuts_unit}
use Rattle.shelf_library.proofs.LimitLemmas.{limits_shut}
use Rattle.shelf_library.proofs.library.ShelfLibraryLibrary.shut.Goals as goal

pub index_mut-requires : goal.index_mut-requires
index_mut-requires g c = is_item g.S.Shelf c.args.self.now c.args.u c.requires.attached

pub unreachable-requires : goal.unreachable-requires
unreachable-requires g c =
    must_be_open g.S.Shelf c.args.self.now c.args.u c.requires.attached c.index_mut.result.now c.index_mut.ensures.value
    c.requires.opened (λ file is. c.in_default.not-Opened file (c.replace.ensures.value ∙ is))

pub close-requires : goal.close-requires
close-requires g c =
    let s = c.args.self.now in
    let at = taken g.S.Shelf s c.args.u c.requires.attached c.index_mut.result.now c.index_mut.ensures.value
    c.replace.result c.replace.ensures.value c.in-Opened.is in
    record { ready = (s.fit.ready c.args.u c.in-Opened.file at).ready }

pub invariant_of-self : goal.invariant_of-self
invariant_of-self g c =
    let s = c.args.self.now in
    let at = taken g.S.Shelf s c.args.u c.requires.attached c.index_mut.result.now c.index_mut.ensures.value
    c.replace.result c.replace.ensures.value c.in-Opened.is in
    let call = closes_at g.S.Shelf s c.args.u c.requires.attached c.in-Opened.file at c.close.result c.close.new.shelf
    c.replace.new.dest c.replace.ensures.after c.close.ensures g.met.S.Shelf.reads_an_image in
    let after = units_after _ _ _ _ _ call in
    record { room = s.room; many = after.many; fit = after; limits = limits_shut _ _ _ _ _ call _ _ s.limits }

pub returns-clause-ok : goal.returns-clause-ok
returns-clause-ok g c honest truly =
    let s = c.args.self.now in
    let at = taken g.S.Shelf s c.args.u c.requires.attached c.index_mut.result.now c.index_mut.ensures.value
    c.replace.result c.replace.ensures.value c.in-Opened.is in
    let call = closes_at g.S.Shelf s c.args.u c.requires.attached c.in-Opened.file at c.close.result c.close.new.shelf
    c.replace.new.dest c.replace.ensures.after c.close.ensures g.met.S.Shelf.reads_an_image in
    shut_ok _ _ _ _ _ call honest truly

pub returns-clause-err : goal.returns-clause-err
returns-clause-err g c honest truly =
    let s = c.args.self.now in
    let at = taken g.S.Shelf s c.args.u c.requires.attached c.index_mut.result.now c.index_mut.ensures.value
    c.replace.result c.replace.ensures.value c.in-Opened.is in
    let call = closes_at g.S.Shelf s c.args.u c.requires.attached c.in-Opened.file at c.close.result c.close.new.shelf
    c.replace.new.dest c.replace.ensures.after c.close.ensures g.met.S.Shelf.reads_an_image in
    shut_err _ _ _ _ _ call honest truly

pub returns-clause-broken : goal.returns-clause-broken
returns-clause-broken g c =
    let s = c.args.self.now in
    let at = taken g.S.Shelf s c.args.u c.requires.attached c.index_mut.result.now c.index_mut.ensures.value
    c.replace.result c.replace.ensures.value c.in-Opened.is in
    let call = closes_at g.S.Shelf s c.args.u c.requires.attached c.in-Opened.file at c.close.result c.close.new.shelf
    c.replace.new.dest c.replace.ensures.after c.close.ensures g.met.S.Shelf.reads_an_image in
    shut_broken _ _ _ _ _ call

pub returns-clause-unchanged : goal.returns-clause-unchanged
returns-clause-unchanged g c honest truly =
    let s = c.args.self.now in
    let at = taken g.S.Shelf s c.args.u c.requires.attached c.index_mut.result.now c.index_mut.ensures.value
    c.replace.result c.replace.ensures.value c.in-Opened.is in
    let call = closes_at g.S.Shelf s c.args.u c.requires.attached c.in-Opened.file at c.close.result c.close.new.shelf
    c.replace.new.dest c.replace.ensures.after c.close.ensures g.met.S.Shelf.reads_an_image in
    shut_unchanged _ _ _ _ _ call honest

pub returns-clause-shuts : goal.returns-clause-shuts
returns-clause-shuts g c =
    let s = c.args.self.now in
    let at = taken g.S.Shelf s c.args.u c.requires.attached c.index_mut.result.now c.index_mut.ensures.value
    c.replace.result c.replace.ensures.value c.in-Opened.is in
    let call = closes_at g.S.Shelf s c.args.u c.requires.attached c.in-Opened.file at c.close.result c.close.new.shelf
    c.replace.new.dest c.replace.ensures.after c.close.ensures g.met.S.Shelf.reads_an_image in
    shuts_unit (library_state g.S.Shelf) c.args.u c.in-Opened.file c.close.result c.args.self.now _ call

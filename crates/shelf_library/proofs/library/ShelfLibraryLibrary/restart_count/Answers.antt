use Rattle.std.proofs.Common.{refl, ap, sym, ◌∙◌}
use Rattle.shelf_library.proofs.Terms.{Opened}
use Rattle.shelf_library.proofs.StateLemmas.{library_state, is_item}
use Rattle.shelf_library.proofs.CountLemmas.{recount, recount_none, recounts, restart, restart_units, restart_limits}
use Rattle.shelf_library.proofs.library.ShelfLibraryLibrary.restart_count.Goals as goal

pub index_mut-requires : goal.index_mut-requires
index_mut-requires g c = is_item g.S.Shelf c.args.self.now c.args.u c.requires.attached

pub invariant_of-self : goal.invariant_of-self
invariant_of-self g c =
    let s = c.args.self.now in
    let one = c.index_mut.result.now in
    let now = Opened c.restart_count.new.self in
    let is = ap Opened c.restart_count.ensures ∙ sym (ap recount c.in-Opened.is) in
    let after = restart_units g.S.Shelf s c.args.u c.requires.attached one c.index_mut.ensures.value now is in
    let limits = restart_limits g.S.Shelf s c.args.u c.requires.attached one c.index_mut.ensures.value now is in
    record { room = s.room; many = after.many; fit = after; limits = limits }

pub invariant_of-self-in_default : goal.invariant_of-self-in_default
invariant_of-self-in_default g c =
    let s = c.args.self.now in
    let one = c.index_mut.result.now in
    let is = sym (recount_none one c.in_default.not-Opened) in
    let after = restart_units g.S.Shelf s c.args.u c.requires.attached one c.index_mut.ensures.value one is in
    let limits = restart_limits g.S.Shelf s c.args.u c.requires.attached one c.index_mut.ensures.value one is in
    record { room = s.room; many = after.many; fit = after; limits = limits }

pub returns-in-Opened : goal.returns-in-Opened
returns-in-Opened g c =
    let s = c.args.self.now in
    let is = ap Opened c.restart_count.ensures ∙ sym (ap recount c.in-Opened.is) in
    recounts (library_state g.S.Shelf) c.args.u s _ s.fit
    (restart g.S.Shelf s c.args.u c.requires.attached c.index_mut.result.now c.index_mut.ensures.value (Opened c.restart_count.new.self) is)
    refl refl refl refl

pub returns-in_default : goal.returns-in_default
returns-in_default g c =
    let s = c.args.self.now in
    let one = c.index_mut.result.now in
    recounts (library_state g.S.Shelf) c.args.u s _ s.fit
    (restart g.S.Shelf s c.args.u c.requires.attached one c.index_mut.ensures.value one (sym (recount_none one c.in_default.not-Opened)))
    refl refl refl refl

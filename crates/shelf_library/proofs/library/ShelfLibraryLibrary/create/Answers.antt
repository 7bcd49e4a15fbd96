use Rattle.std.proofs.Common.{arith, slice_set}
use Rattle.shelf_library.proofs.Terms.{MakesAt}
use Rattle.shelf_library.proofs.StateLemmas.{library_state, state_left, is_within, makes_at, is_item}
use Rattle.shelf_library.proofs.MakingLemmas.{units_after, make_opened, make_named, make_made, make_opens}
use Rattle.shelf_library.proofs.LimitLemmas.{limits_made}
use Rattle.shelf_library.proofs.library.ShelfLibraryLibrary.create.Given as given
use Rattle.shelf_library.proofs.library.ShelfLibraryLibrary.create.Goals as goal

pub create-file-requires-clause-unit : goal.create-file-requires-clause-unit
create-file-requires-clause-unit g c =
    let s = c.args.self.now in
    let within = is_within g.S.Shelf s c.args.u c.requires.attached in
    record { attached = omega (arith, within, s.many) }

pub index_mut-requires : goal.index_mut-requires
index_mut-requires g c = is_item g.S.Shelf c.args.self.now c.args.u c.requires.attached

pub invariant_of-self : goal.invariant_of-self
invariant_of-self g c =
    let s = c.args.self.now in
    let call = makes_at g.S.Shelf s c.args.u c.requires.attached c.args.schema.now c.create-file.result c.create-file.new.shelf
    c.opened-held.result.0 c.opened-held.ensures.held c.create-file.ensures g.met.S.Shelf.reads_an_image in
    let after = units_after _ _ _ _ _ call in
    record { room = s.room; many = after.many; fit = after; limits = limits_made _ _ _ _ _ call s.limits }

-- the call, as the other goals have it
module _ (g : given.Over) (c : goal.Joined-index_mut-held g) where
  call : MakesAt c.args.u c.args.schema.now c.create-file.result (library_state g.S.Shelf c.args.self.now)
      (state_left g.S.Shelf c.args.self.now c.create-file.new.shelf (slice_set c.args.self.now.units.items c.args.u c.opened-held.result.0))
  call = makes_at g.S.Shelf c.args.self.now c.args.u c.requires.attached c.args.schema.now c.create-file.result
      c.create-file.new.shelf c.opened-held.result.0 c.opened-held.ensures.held c.create-file.ensures g.met.S.Shelf.reads_an_image

pub returns-clause-made : goal.returns-clause-made
returns-clause-made g c honest =
    make_made (library_state g.S.Shelf) c.args.u c.args.schema.now c.create-file.result c.args.self.now _ (call g c) _
    c.opened-held.ensures.answer honest

pub returns-clause-opened : goal.returns-clause-opened
returns-clause-opened g c = rw c.opened-held.ensures.answer (make_opened _ _ _ _ _ (call g c))

pub returns-clause-named : goal.returns-clause-named
returns-clause-named g c honest = rw c.opened-held.ensures.answer (make_named _ _ _ _ _ (call g c) honest)

pub returns-clause-opens : goal.returns-clause-opens
returns-clause-opens g c =
    make_opens (library_state g.S.Shelf) c.args.u c.args.schema.now c.create-file.result c.args.self.now _ (call g c) _
    c.opened-held.ensures.answer

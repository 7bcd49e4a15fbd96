use Rattle.std.proofs.Common.{length, map, sym, subst}
use Rattle.std.proofs.lemmas.List.{length-map}
use Rattle.shelf_library.proofs.Terms.{ShelfState, Attaches, AreUnits}
use Rattle.shelf_library.proofs.StateLemmas.{library_state, state_left, attaches}
use Rattle.shelf_library.proofs.AttachLemmas.{units_attached, named_as_before, world_attached, attach_keeps, attach_images}
use Rattle.shelf_library.proofs.LimitLemmas.{limits_attached}
use Rattle.shelf_library.proofs.library.ShelfLibraryLibrary.attach.Given as given
use Rattle.shelf_library.proofs.library.ShelfLibraryLibrary.attach.Goals as goal

pub invariant_of-self : goal.invariant_of-self
invariant_of-self g c =
    let s = c.args.self.now in
    let still = subst (λ (shelf : ShelfState). AreUnits shelf s.units.items) (sym c.in_err-attach.ensures.failed) (s.fit) in
    record { room = s.room; many = still.many; fit = still; limits = s.limits }

pub invariant_of-self-2 : goal.invariant_of-self-2
invariant_of-self-2 g c =
    let s = c.args.self.now in
    let call = attaches g.S.Shelf s (map (λ name. name.bytes) c.args.names.now) (length c.args.names.now)
    c.attach.new.self c.in_ok-units.units.items
    c.requires.distinct (sym (length-map c.args.names.now (λ name. name.bytes))) c.in_ok-units.ensures.count
    c.in_ok-attach.ensures.attached c.attach.ensures.faults in
    let are = units_attached _ _ _ _ call in
    record { room = s.room; many = are.many; fit = are; limits = limits_attached _ _ _ _ call _ _ }

-- the call, as the other goals have it
module _ (g : given.Over) (c : goal.After-drop-self g) where
  call : Attaches (map (λ name. name.bytes) c.args.names.now) (length c.args.names.now) (library_state g.S.Shelf c.args.self.now)
      (state_left g.S.Shelf c.args.self.now c.attach.new.self c.in_ok-units.units.items)
  call = attaches g.S.Shelf c.args.self.now _ (length c.args.names.now) c.attach.new.self c.in_ok-units.units.items
      c.requires.distinct (sym (length-map c.args.names.now (λ name. name.bytes))) c.in_ok-units.ensures.count
      c.in_ok-attach.ensures.attached c.attach.ensures.faults

pub returns-clause-attached : goal.returns-clause-attached
returns-clause-attached g c = world_attached _ _ _ _ (call g c)

pub returns-clause-named : goal.returns-clause-named
returns-clause-named g c = named_as_before _ _ _ _ (call g c)

pub returns-clause-images : goal.returns-clause-images
returns-clause-images g c honest = attach_images (library_state g.S.Shelf) _ _ c.args.self.now _ (call g c)

pub returns-clause-keeps : goal.returns-clause-keeps
returns-clause-keeps g c = attach_keeps (library_state g.S.Shelf) _ _ c.args.self.now _ (call g c)

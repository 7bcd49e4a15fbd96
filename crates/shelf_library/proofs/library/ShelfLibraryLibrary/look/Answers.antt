use Rattle.std.proofs.Common.{arith, slice_set}
use Rattle.shelf_library.proofs.Terms.{LooksAt}
use Rattle.shelf_library.proofs.StateLemmas.{library_state, state_left, is_within, looks_at, is_item}
use Rattle.shelf_library.proofs.LookingLemmas.{units_looked, look_named, look_seen, look_holding, look_not_memory, look_opens}
use Rattle.shelf_library.proofs.LimitLemmas.{limits_looked}
use Rattle.shelf_library.proofs.library.ShelfLibraryLibrary.look.Given as given
use Rattle.shelf_library.proofs.library.ShelfLibraryLibrary.look.Goals as goal

pub look_at-requires : goal.look_at-requires
look_at-requires g c =
    let s = c.args.self.now in
    let within = is_within g.S.Shelf s c.args.u c.requires.attached in
    record { unit = record { attached = omega (arith, within, s.many) } }

pub index_mut-requires : goal.index_mut-requires
index_mut-requires g c = is_item g.S.Shelf c.args.self.now c.args.u c.requires.attached

pub invariant_of-self : goal.invariant_of-self
invariant_of-self g c =
    let s = c.args.self.now in
    let call = looks_at g.S.Shelf s c.args.u c.requires.attached c.look_at.result c.look_at.new.shelf c.held_and_seen-held.result.0
    c.held_and_seen-held.ensures.held c.look_at.ensures in
    let after = units_looked _ _ _ _ call in
    record { room = s.room; many = after.many; fit = after; limits = limits_looked _ _ _ _ call _ _ s.limits }

-- the call, as the other goals have it
module _ (g : given.Over) (c : goal.Joined-index_mut-held g) where
  call : LooksAt c.args.u c.look_at.result (library_state g.S.Shelf c.args.self.now)
      (state_left g.S.Shelf c.args.self.now c.look_at.new.shelf
      (slice_set c.args.self.now.units.items c.args.u c.held_and_seen-held.result.0))
  call = looks_at g.S.Shelf c.args.self.now c.args.u c.requires.attached c.look_at.result c.look_at.new.shelf c.held_and_seen-held.result.0
      c.held_and_seen-held.ensures.held c.look_at.ensures

pub returns-clause-seen : goal.returns-clause-seen
returns-clause-seen g c honest = rw c.held_and_seen-held.ensures.seen (look_seen _ _ _ _ (call g c) honest)

pub returns-clause-holding : goal.returns-clause-holding
returns-clause-holding g c = rw c.held_and_seen-held.ensures.seen (look_holding _ _ _ _ (call g c))

pub returns-clause-named : goal.returns-clause-named
returns-clause-named g c = look_named _ _ _ _ (call g c)

pub returns-clause-not_memory : goal.returns-clause-not_memory
returns-clause-not_memory g c =
    look_not_memory c.args.u c.look_at.result _ _ (call g c) c.held_and_seen-held.result.1 c.held_and_seen-held.ensures.seen

pub returns-clause-opens : goal.returns-clause-opens
returns-clause-opens g c =
    look_opens (library_state g.S.Shelf) c.args.u c.look_at.result c.args.self.now _ (call g c)
    c.held_and_seen-held.result.1 c.held_and_seen-held.ensures.seen

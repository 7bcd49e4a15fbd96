use Rattle.std.proofs.Common.{◌≡◌, IsTrue, sym, subst, ◌∙◌, slice_set}
use Rattle.shelf_library.proofs.Terms.{Holding, is_looked, OpensAt, held_at}
use Rattle.shelf_library.proofs.WorldLemmas.{holding_now}
use Rattle.shelf_library.proofs.StateLemmas.{library_state, state_left, is_within, opens_at, is_item}
use Rattle.shelf_library.proofs.OpenedLemmas.{is_one, taken}
use Rattle.shelf_library.proofs.OpensLemmas.{was_looked}
use Rattle.shelf_library.proofs.OpeningLemmas.{units_after, open_opened, open_named, open_file, open_counts, open_opens}
use Rattle.shelf_library.proofs.LimitLemmas.{limits_opened}
use Rattle.shelf_library.proofs.library.ShelfLibraryLibrary.open.Given as given
use Rattle.shelf_library.proofs.library.ShelfLibraryLibrary.open.Goals as goal

pub index_mut-requires : goal.index_mut-requires
index_mut-requires g c = is_item g.S.Shelf c.args.self.now c.args.u c.requires.attached

pub unreachable-requires : goal.unreachable-requires
unreachable-requires g c =
    let s = c.args.self.now in
    let shelf = g.S.Shelf.state s.shelf in
    let held = s.units.items in
    let within = is_within g.S.Shelf s c.args.u c.requires.attached in
    let at : held_at s.units.items c.args.u ≡ c.replace.result =
    is_one g.S.Shelf s c.args.u c.requires.attached c.index_mut.result.now c.index_mut.ensures.value
    ∙ sym c.replace.ensures.value in
    let looked = was_looked shelf (held_at held c.args.u)
    (subst (λ (h : Holding). IsTrue (is_looked h)) (holding_now shelf held c.args.u within s.many) c.requires.looked) in
    c.in_default.not-Looked looked.0 (sym at ∙ looked.1)

pub open-file-requires : goal.open-file-requires
open-file-requires g c =
    let s = c.args.self.now in
    let at = taken g.S.Shelf s c.args.u c.requires.attached c.index_mut.result.now c.index_mut.ensures.value
    c.replace.result c.replace.ensures.value c.in-Looked.is in
    record { header = (s.fit.looked c.args.u c.in-Looked.header at).allowed }

pub index_mut-requires-2 : goal.index_mut-requires-2
index_mut-requires-2 g c = is_item g.S.Shelf c.args.self.now c.args.u c.requires.attached

pub invariant_of-self : goal.invariant_of-self
invariant_of-self g c =
    let s = c.args.self.now in
    let at = taken g.S.Shelf s c.args.u c.requires.attached c.index_mut.result.now c.index_mut.ensures.value
    c.replace.result c.replace.ensures.value c.in-Looked.is in
    let call = opens_at g.S.Shelf s c.args.u c.requires.attached c.in-Looked.header at c.open-file.result c.replace.new.dest
    c.opened-held.result.0 c.opened-held.ensures.held c.open-file.ensures in
    let after = units_after _ _ _ _ _ call in
    record { room = s.room; many = after.many; fit = after; limits = limits_opened _ _ _ _ _ call s.limits }

-- the call, as the other goals have it
module _ (g : given.Over) (c : goal.Joined-index_mut-held g) where
  call : OpensAt c.args.u c.in-Looked.header c.open-file.result (library_state g.S.Shelf c.args.self.now)
      (state_left g.S.Shelf c.args.self.now c.args.self.now.shelf
      (slice_set (slice_set c.args.self.now.units.items c.args.u c.replace.new.dest) c.args.u c.opened-held.result.0))
  call =
      opens_at g.S.Shelf c.args.self.now c.args.u c.requires.attached c.in-Looked.header
      (taken g.S.Shelf c.args.self.now c.args.u c.requires.attached c.index_mut.result.now c.index_mut.ensures.value
      c.replace.result c.replace.ensures.value c.in-Looked.is)
      c.open-file.result c.replace.new.dest c.opened-held.result.0 c.opened-held.ensures.held c.open-file.ensures

pub returns-clause-opened : goal.returns-clause-opened
returns-clause-opened g c = rw c.opened-held.ensures.answer (open_opened _ _ _ _ _ (call g c))

pub returns-clause-file : goal.returns-clause-file
returns-clause-file g c honest = rw c.opened-held.ensures.answer (open_file _ _ _ _ _ (call g c) honest)

pub returns-clause-named : goal.returns-clause-named
returns-clause-named g c = open_named _ _ _ _ _ (call g c)

pub returns-clause-pages : goal.returns-clause-pages
returns-clause-pages g c honest = rw c.opened-held.ensures.answer (open_counts _ _ _ _ _ (call g c) honest)

pub returns-clause-opens : goal.returns-clause-opens
returns-clause-opens g c =
    open_opens (library_state g.S.Shelf) c.args.u c.in-Looked.header c.open-file.result c.args.self.now _ (call g c) _
    c.opened-held.ensures.answer

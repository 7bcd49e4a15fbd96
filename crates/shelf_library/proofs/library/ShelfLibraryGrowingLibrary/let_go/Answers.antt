use Rattle.std.proofs.Common.{◌≡◌, sym, subst, arith}
use Rattle.shelf_library.proofs.Terms.{ShelfState, AreUnits}
use Rattle.shelf_library.proofs.StateLemmas.{library_state, state_left, is_within}
use Rattle.shelf_library.proofs.AddedLemmas.{lets_file_go}
use Rattle.shelf_library.proofs.library.ShelfLibraryGrowingLibrary.let_go.Goals as goal

pub let_go-requires : goal.let_go-requires
let_go-requires g c =
    let s = c.args.self.now in
    let within = is_within g.S.Shelf s c.args.u c.requires.attached in
    let many = s.many in
    record { unit = record { attached = omega (arith, within, many) } }

pub invariant_of-self : goal.invariant_of-self
invariant_of-self g c =
    let s = c.args.self.now in
    let still = subst (λ (shelf : ShelfState). AreUnits shelf s.units.items) (sym c.let_go.ensures.state) s.fit in
    record { room = s.room; many = still.many; fit = still; limits = s.limits }

pub returns-clause-stays : goal.returns-clause-stays
returns-clause-stays g c =
    let s = c.args.self.now in
    let shelf = c.let_go.ensures.state in
    let faults = c.let_go.ensures.faults in
    let same : state_left g.S.Shelf s c.let_go.new.self s.units.items ≡ library_state g.S.Shelf s =
    λ i. record { shelf = shelf i; held = s.units.items; faults = faults i; limit = (library_state g.S.Shelf s).limit; frames = (library_state g.S.Shelf s).frames } in
    lets_file_go (library_state g.S.Shelf) s _ same

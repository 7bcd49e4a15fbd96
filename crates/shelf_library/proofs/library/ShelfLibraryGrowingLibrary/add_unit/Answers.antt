use Rattle.std.proofs.Common.{◌≡◌, ◌++◌, ◌∷◌, [], refl, rules, arith}
use Rattle.std.proofs.lemmas.Grind.{common_steps}
use Rattle.shelf_library.specs.Adding.{AddsName}
use Rattle.shelf_library.proofs.Terms.{Nothing}
use Rattle.shelf_library.proofs.StateLemmas.{library_state, state_left}
use Rattle.shelf_library.proofs.AddedLemmas.{units_now, limits_added, adds_unit}
use Rattle.shelf_library.proofs.library.ShelfLibraryGrowingLibrary.add_unit.Goals as goal

pub invariant_of-self-2 : goal.invariant_of-self-2
invariant_of-self-2 g c =
    let s = c.args.self.now in
    let held : c.push.new.self.items ≡ s.units.items ++ Nothing ∷ [] = first_of (search rules, grind (arith, common_steps)) in
    let call : AddsName c.args.name.now.bytes (library_state g.S.Shelf s) (state_left g.S.Shelf s c.add_unit.new.self c.push.new.self.items) = record {
      units = s.fit;
      is_new = c.requires.new;
      held = held;
      shelf = c.in_ok-add_unit.ensures.added;
      faults = c.add_unit.ensures.faults;
      limit = refl;
      frames = refl;
    } in
    let are = units_now _ _ _ call in
    record { room = s.room; many = are.many; fit = are; limits = limits_added _ _ _ _ held s.limits }

pub returns-clause-added : goal.returns-clause-added
returns-clause-added g c =
    let s = c.args.self.now in
    let held : c.push.new.self.items ≡ s.units.items ++ Nothing ∷ [] = first_of (search rules, grind (arith, common_steps)) in
    adds_unit (library_state g.S.Shelf) c.args.name.now.bytes s _ (record {
      units = s.fit;
      is_new = c.requires.new;
      held = held;
      shelf = c.in_ok-add_unit.ensures.added;
      faults = c.add_unit.ensures.faults;
      limit = refl;
      frames = refl;
    })

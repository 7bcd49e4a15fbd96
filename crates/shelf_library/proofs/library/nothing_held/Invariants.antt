use Rattle.std.proofs.Common.{◌≡◌}
use Rattle.std.specs.Prelude.{replicate}
use Rattle.shelf_library.proofs.Terms.{Nothing}
use Rattle.shelf_library.proofs.library.nothing_held.Given as goal

abbrev pub invariant-loop : goal.invariant-loop
invariant-loop l = l.units.items ≡ replicate l.counter Nothing

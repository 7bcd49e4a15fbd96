use Rattle.std.proofs.Common.{◌≡◌, map, take}
use Rattle.list_library.specs.Units.{absent_unit}
use Rattle.list_library.proofs.library.absent_units.Given as goal

-- a unit for each name so far
abbrev pub invariant-loop-name : goal.invariant-loop-name
invariant-loop-name l = l.units.items ≡ map (λ name. absent_unit name.bytes) (take l.name-index l.names)

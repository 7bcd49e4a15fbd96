-- What a walk tells where it gives up.
use Rattle.std.specs.Prelude.{⊤}
use Rattle.pages.specs.declared.fault_place.FaultPlace.{FaultPlace}
use Rattle.pages.specs.declared.damage.Damage.{Damage}
use Rattle.pages.specs.declared.walk_fault.WalkFault.{WalkFault}
use Rattle.pages.specs.declared.walk_fault.WalkFault.TheVariants.{Memory, At}

-- that memory ran out, or what is wrong and where, of which this holds
abbrev pub TellsOfFault : (Damage → FaultPlace → Type 0) → WalkFault → Type 0
TellsOfFault Holds Memory = ⊤
TellsOfFault Holds (At fault place) = Holds fault place

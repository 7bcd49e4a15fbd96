-- Why a walk gives up.
use Rattle.std.specs.Prelude.{⊤}
use Rattle.pages.specs.declared.walk_fault.WalkFault.{WalkFault}
use Rattle.pages.specs.declared.walk_fault.WalkFault.TheVariants.{Memory, At}

-- for want of memory, or else only where this is not so
abbrev pub RefusesRightly : Type 0 → WalkFault → Type 0
RefusesRightly Stands Memory = ⊤
RefusesRightly Stands (At fault place) = Stands → ⊥

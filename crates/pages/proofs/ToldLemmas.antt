-- What walks tell where they give up.
use Rattle.std.proofs.Common.{◌≡◌, Result, Ok, Err, IfErr, IsErrAnd, sym, subst}
use Rattle.std.proofs.lemmas.Result.{err_from_is_err_and}
use Rattle.pages.specs.declared.fault_place.FaultPlace.{FaultPlace}
use Rattle.pages.specs.declared.damage.Damage.{Damage}
use Rattle.pages.specs.declared.damage.Damage.TheVariants.{Shared}
use Rattle.pages.specs.declared.walk_fault.WalkFault.{WalkFault}
use Rattle.pages.specs.declared.walk_fault.WalkFault.TheVariants.{Memory, At}
use Rattle.pages.specs.Refused.{RefusesRightly}
use Rattle.pages.specs.Told.{TellsOfFault}

module _ (P : Damage → FaultPlace → Type 0) where
  -- a fault of which this holds
  pub told : (fault : WalkFault) (what : Damage) (place : FaultPlace) → fault ≡ At what place → P what place → TellsOfFault P fault
  told fault what place is holds = subst (TellsOfFault P) (sym is) holds

  pub only_memory_told : {X : Type 0} (r : Result X WalkFault) → IfErr r (λ fault. fault ≡ Memory) → IfErr r (TellsOfFault P)
  only_memory_told (Ok x) is = tt
  only_memory_told (Err fault) is = subst (TellsOfFault P) (sym is) tt

  -- a fault that is handed on
  pub handed_told : {X : Type 0} (r : Result X WalkFault) (fault : WalkFault) → IsErrAnd r (λ e. e ≡ fault) → TellsOfFault P fault → IfErr r (TellsOfFault P)
  handed_told r fault was h = let p = err_from_is_err_and r was in rw (p.1, p.2) h

module _ (P Q : Damage → FaultPlace → Type 0) where
  -- what is told more exactly is told
  pub tells_more : (fault : WalkFault) → ((what : Damage) (place : FaultPlace) → P what place → Q what place) → TellsOfFault P fault → TellsOfFault Q fault
  tells_more Memory f h = tt
  tells_more (At what place) f h = f what place h

  pub err_tells_more : {X : Type 0} (r : Result X WalkFault) → ((what : Damage) (place : FaultPlace) → P what place → Q what place) → IfErr r (TellsOfFault P) → IfErr r (TellsOfFault Q)
  err_tells_more (Ok x) f h = tt
  err_tells_more (Err fault) f h = tells_more fault f h

  pub tells_on : {X : Type 0} (r : Result X WalkFault) (fault : WalkFault) → IsErrAnd r (λ e. e ≡ fault) → ((what : Damage) (place : FaultPlace) → P what place → Q what place) → TellsOfFault P fault
      → IfErr r (TellsOfFault Q)
  tells_on r fault was f h = handed_told Q r fault was (tells_more fault f h)

-- a page that was refused its mark
pub never_free : (S : Type 0) (fault : WalkFault) (place : FaultPlace) → fault ≡ At Shared place → RefusesRightly S fault → S → ⊥
never_free S fault place is never = subst (RefusesRightly S) is never

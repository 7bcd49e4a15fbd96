-- Damage that was found in what was built, and a file that is not broken.
use Rattle.std.proofs.Common.{◌≡◌, ℕ, false, Result, Ok, Err, sym, ◌∙◌}
use Rattle.std.proofs.lemmas.Bool.{false≢true}
use Rattle.std.specs.Prelude.{Bool, IsTrue, IfErr}
use Rattle.io_state.specs.declared.fault.Fault.{Fault}
use Rattle.io_state.specs.declared.fault.Fault.TheVariants.{Damage, Device, Full, Broken}
use Rattle.page_alloc.specs.Joining.{FaultsRose}
use Rattle.page_store.specs.ShelfState.{FaultHasCause}
use Rattle.tree_building.specs.Fresh.{IsBuildCause}
use Rattle.file_building.specs.Parts.{IsDeviceFault}

-- damage that a call found in what was built needs no cause
pub damage_cause : (failed ran_out : Type 0) (fault : Fault) → fault ≡ Damage → IsBuildCause failed ran_out fault
damage_cause failed ran_out fault is = record {
  device = λ e. absurd (let never : Damage ≡ Device = sym is ∙ e in cc);
  full = λ e. absurd (let never : Damage ≡ Full = sym is ∙ e in cc);
  not_broken = λ e. let never : Damage ≡ Broken = sym is ∙ e in cc;
}

-- it is not broken
pub whole : {X : Type 0} (is_broken : Bool) → is_broken ≡ false → IsTrue is_broken → X
whole is_broken not is = absurd (false≢true (sym not ∙ is))

-- a fault that a call on a shelf answered
pub closing_fault : (old new : ℕ) (result : Result (Unit {0}) Fault) → FaultHasCause old new result → IfErr result (IsDeviceFault (FaultsRose old new))
closing_fault old new (Ok done) has = tt
closing_fault old new (Err fault) has = record { device = has.device; counted = has.counted }

-- Why a copy between two shelves gave up.
use Rattle.std.specs.Prelude.{◌≡◌, ◌≢◌, ⊤, Result, IfOk, IfErr}
use Rattle.io_state.specs.declared.fault.Fault.{Fault}
use Rattle.io_state.specs.declared.fault.Fault.TheVariants.{Device, Memory, Full, Damage, Broken}
use Rattle.tree_building.specs.Fresh.{IsBuildCause}
use Rattle.file_building.specs.Parts.{IsDeviceFault}
use Rattle.file_building.specs.declared.copy_fault.CopyFault.{CopyFault}
use Rattle.file_building.specs.declared.copy_fault.CopyFault.TheVariants.{Reading as OfFile, Writing as OfCopy}
use Rattle.file_building.specs.declared.fault.CopyingFault.{CopyingFault}
use Rattle.file_building.specs.declared.fault.CopyingFault.TheVariants.{NoneToCopy, NotAccepted, NoKey, IsThere, Reading, Writing}

-- why pages were not filled
abbrev pub copying_fault_of : CopyFault → CopyingFault
copying_fault_of (OfFile fault) = Reading fault
copying_fault_of (OfCopy fault) = Writing fault

-- why a file was not read: Device only where its device has failed; Damage; nothing else
pub record IsReadingCause (failed : Type 0) (fault : Fault) : Type 0 where
  pub device : fault ≡ Device → failed
  pub not_full : fault ≢ Full
  pub not_memory : fault ≢ Memory
  pub not_broken : fault ≢ Broken

-- why a copy that was begun gave up: a file was not read, or the new one was not written
abbrev pub IsMovingCause : (reading_failed writing_failed ran_out : Type 0) → CopyingFault → Type 0
IsMovingCause reading_failed writing_failed ran_out NoneToCopy = ⊥
IsMovingCause reading_failed writing_failed ran_out NotAccepted = ⊥
IsMovingCause reading_failed writing_failed ran_out NoKey = ⊥
IsMovingCause reading_failed writing_failed ran_out IsThere = ⊥
IsMovingCause reading_failed writing_failed ran_out (Reading fault) = IsReadingCause reading_failed fault
IsMovingCause reading_failed writing_failed ran_out (Writing fault) =
    IsBuildCause writing_failed ran_out fault

-- why the new file was not closed: a call on its shelf failed, and nothing else
abbrev pub IsClosingCause : Type 0 → CopyingFault → Type 0
IsClosingCause failed NoneToCopy = ⊥
IsClosingCause failed NotAccepted = ⊥
IsClosingCause failed NoKey = ⊥
IsClosingCause failed IsThere = ⊥
IsClosingCause failed (Reading fault) = ⊥
IsClosingCause failed (Writing fault) = IsDeviceFault failed fault

-- why a copy gave up: so, or it was not begun
abbrev pub IsCopyingCause : (reading_failed writing_failed ran_out : Type 0) → CopyingFault → Type 0
IsCopyingCause reading_failed writing_failed ran_out NoneToCopy = ⊤
IsCopyingCause reading_failed writing_failed ran_out NotAccepted = ⊤
IsCopyingCause reading_failed writing_failed ran_out NoKey = ⊤
IsCopyingCause reading_failed writing_failed ran_out IsThere = ⊤
IsCopyingCause reading_failed writing_failed ran_out (Reading fault) = IsReadingCause reading_failed fault
IsCopyingCause reading_failed writing_failed ran_out (Writing fault) =
    IsBuildCause writing_failed ran_out fault

-- the fault is no damage
abbrev pub IsNoSourceDamage : CopyingFault → Type 0
IsNoSourceDamage NoneToCopy = ⊤
IsNoSourceDamage NotAccepted = ⊤
IsNoSourceDamage NoKey = ⊤
IsNoSourceDamage IsThere = ⊤
IsNoSourceDamage (Reading fault) = fault ≢ Damage
IsNoSourceDamage (Writing fault) = fault ≢ Damage

-- P holds of the answer, and a fault is no damage
pub record IsCopyingAnswer {X : Type 0} (result : Result X CopyingFault) (P : X → Type 0) : Type 0 where
  pub answer : IfOk result P
  pub no_damage : IfErr result IsNoSourceDamage

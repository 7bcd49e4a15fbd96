-- Why a copy gave up, and what each step of one keeps.
use Rattle.std.specs.Prelude.{◌≢◌, Bool, Result, IfOk, IfErr}
use Rattle.io_state.specs.declared.fault.Fault.TheVariants.{Damage}
use Rattle.pages.specs.ShownPages.{ShownPages}
use Rattle.open_file.specs.Faults.{IsCausedIn}
use Rattle.tree_building.specs.Fresh.{IsBuildCause}
use Rattle.file_building.specs.Steps.{RanOutOfPages}
use Rattle.file_building.specs.declared.copy_fault.CopyFault.{CopyFault}
use Rattle.file_building.specs.declared.copy_fault.CopyFault.TheVariants.{Reading, Writing}

-- why a copy gave up: reading failed only where the device of the file has failed or the file is
-- damaged or broken; writing only where that of the new file has, where no page of it was left, or
-- for want of memory
abbrev pub IsCopyCause : Bool → (reading_failed writing_failed ran_out : Type 0) → CopyFault → Type 0
IsCopyCause is_broken reading_failed writing_failed ran_out (Reading fault) =
    IsCausedIn is_broken reading_failed ⊥ fault
IsCopyCause is_broken reading_failed writing_failed ran_out (Writing fault) =
    IsBuildCause writing_failed ran_out fault

-- what each call keeps that copies, at a fault too: one file is only read, and the other written
pub record KeepsCopying {S T X : Type 0} (from : ShownPages S) (to : ShownPages T) (is_broken : Bool)
    (old new : S) (before after : T) (result : Result X CopyFault) : Type 0 where
  pub cause : IfErr result (IsCopyCause is_broken (from.HasFailed old new) (to.HasFailed before after)
      (RanOutOfPages to before after))
  pub reads : from.Reads old new
  pub writes : to.Writes before after

-- the fault is no damage
abbrev pub IsNoDamage : CopyFault → Type 0
IsNoDamage (Reading fault) = fault ≢ Damage
IsNoDamage (Writing fault) = fault ≢ Damage

-- P holds of the answer, and a fault is no damage
pub record IsCopyAnswer {X : Type 0} (result : Result X CopyFault) (P : X → Type 0) : Type 0 where
  pub answer : IfOk result P
  pub no_damage : IfErr result IsNoDamage

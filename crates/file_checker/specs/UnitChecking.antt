-- The check of the file of a unit.
use Rattle.std.specs.Prelude.{◌≡◌, ◌⊎◌, ℕ, ◌+◌, ◌-◌, ◌^◌, ◌≤◌, min, IsTrue, Result, IfOk, IfErr}
use Rattle.io_state.specs.declared.fault.Fault.{Fault}
use Rattle.io_state.specs.declared.fault.Fault.TheVariants.{Device, Memory}
use Rattle.page_store.specs.DeviceFile.{content}
use Rattle.page_store.specs.ShelfState.{ShelfState, unit_file, OnlyAnswers}
use Rattle.file_checker.specs.declared.verdict.Verdict.{Verdict}
use Rattle.file_checker.specs.Sound.{IsRight}

-- Device where the count of faults rose, or stands at its greatest value; or Memory
abbrev pub IsUnitFault : ℕ → ℕ → Fault → Type 0
IsUnitFault old new fault = (fault ≡ Memory) ⊎ ((fault ≡ Device) × (min (old + 1) (2 ^ 64 - 1) ≤ new))

-- of shelves that show this state and count their faults so
module _ {H : Type 0} (state : H → ShelfState) (count : H → ℕ) where
  -- a call that only answers: where the shelf is honest, its verdict is right of the bytes of the
  -- unit's file, of which a file that is not there has none
  pub record ChecksUnit (unit : ℕ) (before after : H) (result : Result Verdict Fault) : Type 0 where
    pub right : IfOk result (λ verdict. IsTrue (state after).is_honest
        → IsRight (content (unit_file (state before) unit)) verdict)
    pub only : OnlyAnswers (state before) (state after)
    pub no_fewer : count before ≤ count after
    pub fault : IfErr result (IsUnitFault (count before) (count after))

-- What a call on pages keeps, at a fault too: why it gave up, how many pages it asked for at most,
-- and what it left of them.
use Rattle.std.specs.Prelude.{◌≤◌, ◌+◌, ℕ, Result, IfErr}
use Rattle.io_state.specs.declared.fault.Fault.{Fault}
use Rattle.pages.specs.Cause.{IsCaused}
use Rattle.pages.specs.ShownPages.{ShownPages}

-- a call that only reads
pub record ReadsPages {S X : Type 0} (shown : ShownPages S) (most : ℕ) (old new : S)
    (result : Result X Fault) : Type 0 where
  pub cause : IfErr result (IsCaused (shown.HasFailed old new) ⊥)
  pub asked : (shown.state new).asked ≤ (shown.state old).asked + most
  pub step : shown.Reads old new

-- a call that changes pages behind an open gate, and answers Full only under the condition
pub record WritesPages {S X : Type 0} (shown : ShownPages S) (most : ℕ) (lacks_room : Type 0) (old new : S)
    (result : Result X Fault) : Type 0 where
  pub cause : IfErr result (IsCaused (shown.HasFailed old new) lacks_room)
  pub asked : (shown.state new).asked ≤ (shown.state old).asked + most
  pub step : shown.Writes old new

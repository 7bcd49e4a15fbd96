-- Why a call on an open file gave up, and what one that reads keeps, at a fault too.
use Rattle.std.specs.Prelude.{◌≡◌, ◌≢◌, ◌≤◌, ◌+◌, ℕ, Bool, IsTrue, Result, Err, IfErr}
use Rattle.io_state.specs.declared.fault.Fault.{Fault}
use Rattle.pages.specs.ShownPages.{ShownPages}
use Rattle.io_state.specs.declared.fault.Fault.TheVariants.{Device, Full, Memory, Broken}

-- Device only where the device has failed, Full only under this condition, Broken only where an
-- earlier change failed, and never Memory
pub record IsCausedIn (is_broken : Bool) (failed lacks_room : Type 0) (fault : Fault) : Type 0 where
  pub device : fault ≡ Device → failed
  pub full : fault ≡ Full → lacks_room
  pub not_memory : fault ≢ Memory
  pub broken : fault ≡ Broken → IsTrue is_broken

-- a call that only reads a file that is broken or not: why it gave up, how many pages it asked for
-- at most, and that it left them
pub record ReadsFile {S X : Type 0} (shown : ShownPages S) (is_broken : Bool) (most : ℕ) (old new : S)
    (result : Result X Fault) : Type 0 where
  pub broken : IsTrue is_broken → result ≡ Err Broken
  pub cause : IfErr result (IsCausedIn is_broken (shown.HasFailed old new) ⊥)
  pub asked : (shown.state new).asked ≤ (shown.state old).asked + most
  pub step : shown.Reads old new

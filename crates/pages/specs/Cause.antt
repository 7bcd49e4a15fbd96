-- Why a call on pages gave up.
use Rattle.std.specs.Prelude.{◌≡◌, ◌≢◌}
use Rattle.io_state.specs.declared.fault.Fault.{Fault}
use Rattle.io_state.specs.declared.fault.Fault.TheVariants.{Device, Full, Memory, Broken}

-- Device only where the device has failed, Full only under this condition, and never Memory or Broken
pub record IsCaused (failed lacks_room : Type 0) (fault : Fault) : Type 0 where
  pub device : fault ≡ Device → failed
  pub full : fault ≡ Full → lacks_room
  pub not_memory : fault ≢ Memory
  pub not_broken : fault ≢ Broken

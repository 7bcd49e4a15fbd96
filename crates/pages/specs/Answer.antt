-- What is known of a call's answer where the pages stand for something.
use Rattle.std.specs.Prelude.{◌≢◌, Result, IfOk, IfErr}
use Rattle.io_state.specs.declared.fault.Fault.{Fault}
use Rattle.io_state.specs.declared.fault.Fault.TheVariants.{Damage}

-- P holds of the answer, and a fault is no damage
pub record IsAnswer {X : Type 0} (result : Result X Fault) (P : X → Type 0) : Type 0 where
  pub answer : IfOk result P
  pub no_damage : IfErr result (λ e. e ≢ Damage)

-- An answer that is handed on.
use Rattle.std.proofs.Common.{◌≡◌, ◌≢◌, Result}
use Rattle.std.specs.Prelude.{IsErrAnd}
use Rattle.std.proofs.lemmas.Result.{err_from_is_err_and}
use Rattle.io_state.specs.declared.fault.Fault.{Fault}
use Rattle.io_state.specs.declared.fault.Fault.TheVariants.{Damage}
use Rattle.pages.specs.Answer.{IsAnswer}

-- a fault that is no damage is handed on
pub fails : {X : Type 0} (r : Result X Fault) (fault : Fault) (P : X → Type 0) → IsErrAnd r (λ e. e ≡ fault) → fault ≢ Damage → IsAnswer r P
fails r fault P was sound =
    let p = err_from_is_err_and r was in
    rw (p.1, p.2) (record { answer = tt; no_damage = sound })

-- The cause of a fault, seen from an earlier state of the pages.
use Rattle.std.specs.Prelude.{◌≡◌, Result, Ok, Err, IfErr, IsErrAnd}
use Rattle.std.proofs.lemmas.Result.{err_from_is_err_and}
use Rattle.io_state.specs.declared.fault.Fault.{Fault}
use Rattle.pages.specs.Cause.{IsCaused}

-- what caused it since then has caused it since before
pub is_caused_since : (failed since lacks short : Type 0) → (failed → since) → (lacks → short) → (fault : Fault) → IsCaused failed lacks fault → IsCaused since short fault
is_caused_since failed since lacks short f g fault is = record { device = λ e. f (is.device e); full = λ e. g (is.full e); not_memory = is.not_memory; not_broken = is.not_broken }

-- of a result
pub caused_since : {X : Type 0} (r : Result X Fault) (failed since lacks short : Type 0) → (failed → since) → (lacks → short) → IfErr r (IsCaused failed lacks) → IfErr r (IsCaused since short)
caused_since (Ok x) failed since lacks short f g is = tt
caused_since (Err fault) failed since lacks short f g is = is_caused_since failed since lacks short f g fault is

-- of a result that hands on the fault of a later call
pub fails_since : {X : Type 0} (r : Result X Fault) (fault : Fault) (failed since lacks short : Type 0) → IsErrAnd r (λ e. e ≡ fault) → (failed → since) → (lacks → short)
    → IsCaused failed lacks fault → IfErr r (IsCaused since short)
fails_since r fault failed since lacks short was f g is =
    let p = err_from_is_err_and r was in
    rw (p.1, p.2) (is_caused_since failed since lacks short f g fault is)

-- The cause of a fault that is handed on.
use Rattle.std.proofs.Common.{◌≡◌, ℕ, ◌≤◌, Result, Ok, Err, arith}
use Rattle.std.specs.Prelude.{IsErrAnd}
use Rattle.std.proofs.lemmas.Result.{err_from_is_err_and}
use Rattle.io_state.specs.declared.fault.Fault.{Fault}
use Rattle.page_store.specs.ShelfState.{FaultHasCause}

-- a call that did not fail
pub no_cause : {X : Type 0} (x : X) (i j : ℕ) → i ≤ j → FaultHasCause i j (Ok x)
no_cause x i j le = record { no_fewer = le; counted = tt; device = tt }

-- it has its cause since before
pub cause_since : {X : Type 0} (r : Result X Fault) (i j k : ℕ) → i ≤ j → FaultHasCause j k r → FaultHasCause i k r
cause_since (Ok x) i j k le cause = no_cause x i k (let a = cause.no_fewer in omega arith)
cause_since (Err e) i j k le cause = record {
  no_fewer = let a = cause.no_fewer in omega arith;
  counted = let a = cause.counted in omega arith;
  device = cause.device;
}

pub handed_on : {X Y : Type 0} (r : Result X Fault) (fault : Fault) (i j : ℕ) → IsErrAnd r (λ e. e ≡ fault)
    → FaultHasCause {T = Y} i j (Err fault) → FaultHasCause i j r
handed_on r fault i j was cause =
    let p = err_from_is_err_and r was in
    rw (p.1, p.2) (record {
      no_fewer = cause.no_fewer;
      counted = cause.counted;
      device = cause.device;
    })

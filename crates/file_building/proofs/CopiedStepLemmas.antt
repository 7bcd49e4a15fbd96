-- Copies one after another: why they gave up, and what is known of their answers.
use Rattle.std.proofs.Common.{◌≡◌, false, Result, Ok, Err}
use Rattle.std.proofs.lemmas.Bool.{false≢true}
use Rattle.std.specs.Prelude.{Bool, IsTrue, IfOk, IfErr, IsErrAnd}
use Rattle.std.proofs.lemmas.Result.{err_from_is_err_and}
use Rattle.io_state.specs.declared.fault.Fault.{Fault}
use Rattle.pages.specs.Cause.{IsCaused}
use Rattle.pages.specs.Answer.{IsAnswer}
use Rattle.pages.specs.ShownPages.{ShownPages}
use Rattle.file_building.specs.declared.copy_fault.CopyFault.{CopyFault}
use Rattle.file_building.specs.declared.copy_fault.CopyFault.TheVariants.{Reading, Writing}
use Rattle.file_building.specs.Steps.{RanOutOfPages}
use Rattle.file_building.specs.CopyFault.{IsCopyCause, IsCopyAnswer, IsNoDamage}
use Rattle.file_building.proofs.StepLemmas.{StepLaws, cause_since}

pub copy_ok : {X : Type 0} (r : Result X CopyFault) (P Q : X → Type 0) → ((x : X) → P x → Q x) → IsCopyAnswer r P → IsCopyAnswer r Q
copy_ok (Ok x) P Q f is = record { answer = f x is.answer; no_damage = tt }
copy_ok (Err fault) P Q f is = record { answer = tt; no_damage = is.no_damage }

-- ---- what is copied

-- a call on the file that is copied, told as one of a copy
abbrev pub as_reading : {X : Type 0} → Result X Fault → Result X CopyFault
as_reading (Ok x) = Ok x
as_reading (Err fault) = Err (Reading fault)

abbrev pub as_writing : {X : Type 0} → Result X Fault → Result X CopyFault
as_writing (Ok x) = Ok x
as_writing (Err fault) = Err (Writing fault)

pub answers_reading : {X : Type 0} (r : Result X Fault) (P : X → Type 0) → IsAnswer r P → IsCopyAnswer (as_reading r) P
answers_reading (Ok x) P is = record { answer = is.answer; no_damage = tt }
answers_reading (Err fault) P is = record { answer = tt; no_damage = is.no_damage }

pub answers_writing : {X : Type 0} (r : Result X Fault) (P : X → Type 0) → IsAnswer r P → IsCopyAnswer (as_writing r) P
answers_writing (Ok x) P is = record { answer = is.answer; no_damage = tt }
answers_writing (Err fault) P is = record { answer = tt; no_damage = is.no_damage }

-- the cause of a fault in reading
pub reading_cause : (is_broken : Bool) (failed writing_failed ran_out : Type 0) (fault : Fault) → IsCaused failed ⊥ fault → IsCopyCause is_broken failed writing_failed ran_out (Reading fault)
reading_cause is_broken failed writing_failed ran_out fault is = record {
  device = is.device;
  full = is.full;
  not_memory = is.not_memory;
  broken = λ e. absurd (is.not_broken e);
}

-- ---- copies one after another

-- a copy's fault that is handed on
pub copy_handed : {X : Type 0} (r : Result X CopyFault) (fault : CopyFault) (P : CopyFault → Type 0) → IsErrAnd r (λ e. e ≡ fault) → P fault → IfErr r P
copy_handed r fault P was is = let p = err_from_is_err_and r was in rw (p.1, p.2) is

pub copy_fails : {X : Type 0} (r : Result X CopyFault) (fault : CopyFault) (P : X → Type 0) → IsErrAnd r (λ e. e ≡ fault) → IsNoDamage fault → IsCopyAnswer r P
copy_fails r fault P was sound = let p = err_from_is_err_and r was in rw (p.1, p.2) (record { answer = tt; no_damage = sound })

pub copy_no_answer : {X : Type 0} (r : Result X CopyFault) (fault : CopyFault) (P : X → Type 0) → IsErrAnd r (λ e. e ≡ fault) → IfOk r P
copy_no_answer r fault P was = let p = err_from_is_err_and r was in rw p.1 tt

pub copy_if_err : {X : Type 0} (r : Result X CopyFault) (P Q : CopyFault → Type 0) → ((fault : CopyFault) → P fault → Q fault) → IfErr r P → IfErr r Q
copy_if_err (Ok x) P Q f is = tt
copy_if_err (Err fault) P Q f is = f fault is

pub copy_if_ok : {X : Type 0} (r : Result X CopyFault) (P Q : X → Type 0) → ((x : X) → P x → Q x) → IfOk r P → IfOk r Q
copy_if_ok (Ok x) P Q f is = f x is
copy_if_ok (Err fault) P Q f is = tt

pub nothing_true : (is : Bool) → IsTrue false → IsTrue is
nothing_true is never = absurd (false≢true never)

-- what has caused a fault of a later copy has caused it since before
module _ {S T : Type 0} (from : ShownPages S) (to : ShownPages T) (since : (a b c : S) → from.Reads a b → from.HasFailed b c → from.HasFailed a c) (laws : StepLaws to) where
  pub copy_cause : (was is : Bool) → (IsTrue was → IsTrue is) → (a b c : S) (x y z : T) → from.Reads a b → to.Writes x y → (fault : CopyFault)
      → IsCopyCause was (from.HasFailed b c) (to.HasFailed y z) (RanOutOfPages to y z) fault → IsCopyCause is (from.HasFailed a c) (to.HasFailed x z) (RanOutOfPages to x z) fault
  copy_cause was is more a b c x y z reads goes (Reading fault) cause = record {
    device = λ e. since a b c reads (cause.device e);
    full = cause.full;
    not_memory = cause.not_memory;
    broken = λ e. more (cause.broken e);
  }
  copy_cause was is more a b c x y z reads goes (Writing fault) cause = cause_since to laws x y z goes fault cause

-- Calls one after another: why they gave up, and what is known of their answers.
use Rattle.std.proofs.Common.{◌≡◌, sym, ◌∙◌, Result, Ok, Err}
use Rattle.std.specs.Prelude.{IfOk, IfErr, IsErrAnd}
use Rattle.std.proofs.lemmas.Result.{err_from_is_err_and}
use Rattle.io_state.specs.declared.fault.Fault.{Fault}
use Rattle.io_state.specs.declared.fault.Fault.TheVariants.{Damage, Device, Full, Broken}
use Rattle.pages.specs.Cause.{IsCaused}
use Rattle.pages.specs.ShownPages.{ShownPages}
use Rattle.tree_building.specs.Fresh.{IsBuildCause}
use Rattle.file_building.specs.Steps.{RanOutOfPages}

-- the laws of pages that calls one after another ask for
pub record StepLaws {S : Type 0} (shown : ShownPages S) : Type 0 where
  pub nothing : (a : S) → shown.Writes a a
  pub on : (a b c : S) → shown.Writes a b → shown.Writes b c → shown.Writes a c
  pub failed_before : (a b c : S) → shown.HasFailed a b → shown.Writes b c → shown.HasFailed a c
  pub failed_after : (a b c : S) → shown.Writes a b → shown.HasFailed b c → shown.HasFailed a c

-- ---- what is built

-- what is so of a fault, of a result
pub if_err : {X : Type 0} (r : Result X Fault) (P Q : Fault → Type 0) → ((fault : Fault) → P fault → Q fault) → IfErr r P → IfErr r Q
if_err (Ok x) P Q f is = tt
if_err (Err fault) P Q f is = f fault is

-- a fault that is handed on
pub handed_on : {X : Type 0} (r : Result X Fault) (fault : Fault) (P : Fault → Type 0) → IsErrAnd r (λ e. e ≡ fault) → P fault → IfErr r P
handed_on r fault P was is = let p = err_from_is_err_and r was in rw (p.1, p.2) is

-- and there is no answer then
pub no_answer : {X : Type 0} (r : Result X Fault) (fault : Fault) (P : X → Type 0) → IsErrAnd r (λ e. e ≡ fault) → IfOk r P
no_answer r fault P was = let p = err_from_is_err_and r was in rw p.1 tt

-- of an answer two things are known
pub if_both : {X : Type 0} (r : Result X Fault) (P Q R : X → Type 0) → ((x : X) → P x → Q x → R x) → IfOk r P → IfOk r Q → IfOk r R
if_both (Ok x) P Q R f p q = f x p q
if_both (Err fault) P Q R f p q = tt

module _ {S : Type 0} (shown : ShownPages S) (laws : StepLaws shown) where
  -- a heap gives up for want of a page where none was left before the call
  pub heap_cause : (before after : S) (lacks : Type 0) → shown.Writes before after → (lacks → (shown.state before).available ≡ 0)
      → (fault : Fault) → IsCaused (shown.HasFailed before after) lacks fault → IsBuildCause (shown.HasFailed before after) (RanOutOfPages shown before after) fault
  heap_cause before after lacks goes none fault is = record {
    device = is.device;
    full = λ e. record { at = before; since = laws.nothing before; until = goes; none = none (is.full e) };
    not_broken = is.not_broken;
  }

  -- an index where none is left behind it
  pub index_cause : (before after : S) → shown.Writes before after
      → (fault : Fault) → IsBuildCause (shown.HasFailed before after) ((shown.state after).available ≡ 0) fault → IsBuildCause (shown.HasFailed before after) (RanOutOfPages shown before after) fault
  index_cause before after goes fault is = record {
    device = is.device;
    full = λ e. record { at = after; since = goes; until = laws.nothing after; none = is.full e };
    not_broken = is.not_broken;
  }

  pub ran_out_since : (before mid after : S) → shown.Writes before mid → RanOutOfPages shown mid after → RanOutOfPages shown before after
  ran_out_since before mid after goes out = record { at = out.at; since = laws.on before mid out.at goes out.since; until = out.until; none = out.none }

  -- what has caused a fault of a later call has caused it since before
  pub cause_since : (before mid after : S) → shown.Writes before mid
      → (fault : Fault) → IsBuildCause (shown.HasFailed mid after) (RanOutOfPages shown mid after) fault → IsBuildCause (shown.HasFailed before after) (RanOutOfPages shown before after) fault
  cause_since before mid after goes fault is = record {
    device = λ e. laws.failed_after before mid after goes (is.device e);
    full = λ e. ran_out_since before mid after goes (is.full e);
    not_broken = is.not_broken;
  }

-- damage that a call found in what was built needs no cause
pub damage_cause : (failed ran_out : Type 0) (fault : Fault) → fault ≡ Damage → IsBuildCause failed ran_out fault
damage_cause failed ran_out fault is = record {
  device = λ e. absurd (let never : Damage ≡ Device = sym is ∙ e in cc);
  full = λ e. absurd (let never : Damage ≡ Full = sym is ∙ e in cc);
  not_broken = λ e. let never : Damage ≡ Broken = sym is ∙ e in cc;
}

-- Why a deck is not listed, and what follows where it is.
use Rattle.std.proofs.Common.{◌≡◌, ℕ, List, Result, Ok, Err, IfOk, IfErr, refl, ap, subst}
use Rattle.command_support.specs.Status.{status_of}
use Rattle.file_commands.specs.Listed.{IsListFault, TellsDeck, IsDeckRefused}
use Rattle.command_support.specs.declared.outcome.Outcome.{Outcome}
use Rattle.command_support.specs.declared.fault.CommandFault.{CommandFault}
use Rattle.command_support.specs.declared.fault.RefusedDeck.{RefusedDeck}
use Rattle.command_support.specs.declared.fault.CommandFault.TheVariants.{NotListed, Input, Output, Memory}

-- the input, the output or memory failed
pub not_read : (fault : CommandFault) → status_of fault ≡ 4 → IsListFault fault
not_read Input is = tt
not_read Output is = tt
not_read Memory is = tt
not_read fault is = absurd (cc)

-- and no deck was refused
pub not_refused : {A : Type 0} (fault : CommandFault) (told : RefusedDeck) → status_of fault ≡ 4 → fault ≡ NotListed told → A
not_refused fault told four is =
    let two : status_of (NotListed told) ≡ 4 = subst (λ (f : CommandFault). status_of f ≡ 4) is four in
    absurd (cc)

-- the output failed
pub not_written : (fault : CommandFault) → fault ≡ Output → IsListFault fault
not_written fault is = not_read fault (let told : status_of fault ≡ 4 = cc in told)

-- where something was done, what follows from what is known of it
pub if_ok : {A B : Type 0} (result : Result Outcome CommandFault) → (A → B) → IfOk result (λ _. A) → IfOk result (λ _. B)
if_ok (Ok done) so known = so known
if_ok (Err fault) so known = tt

-- where something was done, what follows of it from what is known of it
pub if_ok_of : {A B : Outcome → Type 0} (result : Result Outcome CommandFault) → ((outcome : Outcome) → A outcome → B outcome) → IfOk result A → IfOk result B
if_ok_of (Ok done) so known = so done known
if_ok_of (Err fault) so known = tt

-- what becomes of a deck: it was not read, it is refused, or its text was written or not
module _ {W : Type 0} {IsRead IsWritten : List ℕ → Type 0} {told : Outcome} {old : W} where
  pub deck_not_read : (fault : CommandFault) → status_of fault ≡ 4 → TellsDeck IsRead IsWritten told old old (Err fault)
  deck_not_read fault four = record {
    done = tt;
    written = tt;
    refused = λ why. not_refused fault why four;
    untouched = λ _. refl;
    fault = not_read fault four;
  }

  pub deck_refused : (bytes : List ℕ) → IsRead bytes → (fault : CommandFault) → ((why : RefusedDeck) → fault ≡ NotListed why → IsDeckRefused bytes why) → IsListFault fault
      → TellsDeck IsRead IsWritten told old old (Err fault)
  deck_refused bytes read fault refused listed = record {
    done = tt;
    written = tt;
    refused = λ why is. (bytes, read, refused why is);
    untouched = λ _. refl;
    fault = listed;
  }

  pub deck_told : {new : W} (result : Result Outcome CommandFault) → IfOk result (λ outcome. outcome ≡ told) → IfOk result (λ _. (bytes : List ℕ) × IsRead bytes × IsWritten bytes)
      → IfErr result (λ fault. fault ≡ Output) → TellsDeck IsRead IsWritten told old new result
  deck_told (Ok outcome) done written out = record { done = done; written = written; refused = tt; untouched = tt; fault = tt }
  deck_told (Err fault) done written out = record {
    done = tt;
    written = tt;
    refused = λ why is. not_refused fault why (ap status_of out) is;
    untouched = λ other. absurd (other (ap status_of out));
    fault = not_written fault out;
  }

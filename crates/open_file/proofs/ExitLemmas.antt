-- A call that failed, and what an answer says.
use Rattle.std.proofs.Common.{◌≡◌, ◌≢◌, ℕ, List, Option}
use Rattle.std.specs.Prelude.{Result, Ok, Err, IfOk, IsErrAnd, Bool, IsTrue}
use Rattle.std.proofs.lemmas.Result.{err_from_is_err_and}
use Rattle.io_state.specs.declared.fault.Fault.{Fault}
use Rattle.io_state.specs.declared.fault.Fault.TheVariants.{Damage}
use Rattle.pages.specs.Answer.{IsAnswer}
use Rattle.indexed_file.specs.File.{Row, File}
use Rattle.indexed_file.specs.declared.answer.Found.{Found}
use Rattle.pages.specs.PageMap.{PageMap}
use Rattle.open_file.specs.Reading.{ReadsRow, FindsFirst}
use Rattle.open_file.specs.Stands.{Stands}
use Rattle.open_file.specs.declared.open_file.OpenFile.{OpenFile}

-- a fault that is no damage is handed on
pub fails : {X : Type 0} (r : Result X Fault) (fault : Fault) → IsErrAnd r (λ e. e ≡ fault) → fault ≢ Damage → (P : X → Type 0) → IsAnswer r P
fails r fault was sound P =
    let p = err_from_is_err_and r was in
    rw (p.1, p.2) (record { answer = tt; no_damage = sound })

pub fails_reading : {X : Type 0} (r : Result X Fault) (fault : Fault) → IsErrAnd r (λ e. e ≡ fault) → fault ≢ Damage
    → (answer : X) (old new : List ℕ) (row : Option Row) → ReadsRow r answer old new row
fails_reading r fault was sound answer old new row =
    let p = err_from_is_err_and r was in
    rw (p.1, p.2) (record { answered = record { answer = tt; no_damage = sound }; area = tt })

-- a look for a row that failed leaves the area as it was
pub fails_finding : (r : Result (Option Found) Fault) (fault : Fault) → IsErrAnd r (λ e. e ≡ fault) → (honest : Bool) (opened : OpenFile) (pages : PageMap) (k : ℕ) (test : Row → Bool) (old new : List ℕ)
    → (IsTrue honest → (file : File) → Stands opened pages file → fault ≢ Damage) → new ≡ old → FindsFirst honest opened pages k test old new r
fails_finding r fault was honest opened pages k test old new sound same =
    let p = err_from_is_err_and r was in
    record {
      found = λ honest file stands. fails_reading r fault was (sound honest file stands) _ _ _ _;
      none = λ is. same;
      kept = rw p.1 same;
    }

-- what follows from an answer
pub if_ok : {X : Type 0} (r : Result X Fault) (A B : X → Type 0) → ((x : X) → A x → B x) → IfOk r A → IfOk r B
if_ok (Ok x) A B f h = f x h
if_ok (Err e) A B f h = h

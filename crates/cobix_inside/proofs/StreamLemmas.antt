-- What two writes, two reads, and the answer to a lock come to.
use Rattle.std.proofs.Common.{◌≡◌, ◌∙◌, sym, ap, subst, ℕ, pos, List, ◌++◌, length, take, Option, IfOk, OnOk}
use Rattle.std.proofs.lemmas.List.{take_at}
use Rattle.std.specs.Prelude.{Result, Ok, Err}
use Rattle.std.specs.Io.KnownBytes.{Appends, Consumes}
use Rattle.std.proofs.KnownBytes.{Appends-trans, Consumes-trans}
use Rattle.std.specs.declared.io.Error.{Error}
use Rattle.std.specs.declared.fs.locks.TryLockError.{TryLockError}
use Rattle.cobix_inside.specs.Answers.{IsLockOutcome, Stream, IsNumberTold, IsDone, IsToldBytes}
use Rattle.cobix_inside.specs.declared.question.Question.{Question}

pub both_written : {E : Type 0} (a b c : Option (List ℕ)) (bs cs : List ℕ) (r : Result (Unit {0}) E)
    → Appends a b bs → OnOk r (Appends b c cs) → OnOk r (Appends a c (bs ++ cs))
both_written a b c bs cs (Ok _) first second = Appends-trans a b c bs cs first second
both_written a b c bs cs (Err e) first second = tt

pub lock_done : (input output : Stream) (question : Question) (answer : Result ℕ Error) (result : Result (Unit {0}) TryLockError)
    → IfOk answer (IsNumberTold input output question) → IsLockOutcome answer result → OnOk result (IsDone input output question)
lock_done input output question (Ok n) result told is =
    subst (λ (r : Result (Unit {0}) TryLockError). OnOk r (IsDone input output question)) (sym is) (n, told)
lock_done input output question (Err e) result told (refusal, is, would_block, other) =
    subst (λ (r : Result (Unit {0}) TryLockError). OnOk r (IsDone input output question)) (sym is) tt

-- the bytes that a number told of came behind it
pub told_with : (left mid after : Option (List ℕ)) (output : Stream) (question : Question) (told came : ℕ) (bytes rest : List ℕ)
    → IsNumberTold (record { before = left; after = mid }) output question told → came ≡ told → length bytes ≡ came → Consumes mid after bytes
    → IsToldBytes (record { before = left; after = after }) output question (take came (bytes ++ rest))
told_with left mid after output question told came bytes rest (answer, eight, (wrote, read), is) same long then =
    subst (λ (l : List ℕ). IsToldBytes (record { before = left; after = after }) output question l) (sym (take_at bytes rest came long))
    (answer, eight, (wrote, Consumes-trans left mid after answer bytes read then), is ∙ ap pos (sym (long ∙ same)))

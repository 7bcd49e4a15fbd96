-- What is found of a file by the reads of a shelf.
use Rattle.std.proofs.Common.{◌≡◌, ℕ, Bool, true, false, List, [], ◌∷◌, ◌++◌, Result, Ok, Err, IfOk, refl, sym, ap, subst, ◌∙◌, append-nil}
use Rattle.std.specs.Prelude.{IsTrue, OnOk, ◌||◌}
use Rattle.std.specs.Result.{is_err}
use Rattle.io_state.specs.declared.fault.Fault.{Fault}
use Rattle.page_store.specs.DeviceFile.{content}
use Rattle.page_store.specs.ShelfState.{ShelfState, attached_as, unit_file}
use Rattle.folder_shelf.specs.Shelf.{shelf_after}
use Rattle.folder_shelf.specs.Answers.{are_answers_of}
use Rattle.folder_shelf.specs.Calls.{Call}
use Rattle.folder_shelf.specs.Reading.{ByReads}
use Rattle.folder_shelf.specs.Replay.{Unseen}
use Rattle.folder_shelf.specs.SystemState.{SystemState}
use Rattle.folder_shelf.proofs.FileLemmas.{are_reading}
use Rattle.file_commands.specs.Since.{HasOnlyRead, calls_since, is_failed_read, has_failed_read}
use Rattle.file_checker.specs.declared.verdict.Verdict.{Verdict}
use Rattle.file_checker.specs.Sound.{IsRight}
use Rattle.file_commands.specs.declared.by_pages.NotRead.{NotRead}
use Rattle.file_commands.specs.declared.by_pages.NotRead.TheVariants.{Device, Memory}
use Rattle.file_commands.specs.ByPages.{OfFileAtPath, ExaminesPath, ExaminesAtPath, IsFoundBy}

-- a system was only read since it was in some state
pub by_since : {IsSo : List Call → Type 0} (before now old : SystemState) (has_failed : Bool) → old ≡ before → HasOnlyRead before now has_failed → IsSo (calls_since before now) → ByReads IsSo old now
by_since {IsSo} before now old has_failed same only so = subst (λ (s : SystemState). ByReads IsSo s now) (sym same) (record {
  calls = calls_since before now;
  noted = only.noted;
  reading = are_reading (calls_since before now) only.reading;
  so = so;
})

-- what is so of a call that did not fail
pub on_ok : {T E : Type 0} {P : Type 0} (r : Result T E) → is_err r ≡ false → OnOk r P → P
on_ok (Ok x) fine is = is
on_ok (Err e) fine is = absurd (cc)

-- what was found on the shelf of a path was found by the calls on it
pub of_path : (disk : Unseen) (path : List ℕ) (calls : List Call) (old : ShelfState) (honest : Bool) (found : Result Verdict Fault) → old ≡ attached_as ([] ∷ []) (shelf_after disk.first path [] []) → honest ≡ are_answers_of disk.first calls
    → IfOk found (λ verdict. IsTrue honest → IsRight (content (unit_file old 0)) verdict) → IfOk found (λ verdict. OfFileAtPath disk path calls (λ bytes. IsRight bytes verdict))
of_path disk path calls old honest (Ok verdict) is as_told right = λ all.
    subst (λ (shelf : ShelfState). IsRight (content (unit_file shelf 0)) verdict) is (right (subst IsTrue (sym as_told) all))
of_path disk path calls old honest (Err fault) is as_told right = tt

-- what was found by these reads
pub examined : (disk : Unseen) (path : List ℕ) (calls : List Call) (found : Result Verdict Fault) (has_failed : Bool) (told : Result Verdict NotRead) → IsFoundBy found has_failed told
    → IfOk found (λ verdict. OfFileAtPath disk path calls (λ bytes. IsRight bytes verdict)) → has_failed ≡ has_failed_read calls → ExaminesPath disk path told calls
examined disk path calls found has_failed (Ok verdict) is right failed = subst (λ (r : Result Verdict Fault). IfOk r (λ verdict. OfFileAtPath disk path calls (λ bytes. IsRight bytes verdict))) is right
examined disk path calls found has_failed (Err Device) is right failed = sym failed ∙ is
examined disk path calls found has_failed (Err Memory) is right failed = tt

or_behind : (here later all : Bool) → (later ≡ true → all ≡ true) → (here || later) ≡ true → (here || all) ≡ true
or_behind true later all behind is = refl
or_behind false later all behind is = behind is

failed_behind : (later calls : List Call) → has_failed_read later ≡ true → has_failed_read (later ++ calls) ≡ true
failed_behind [] calls is = absurd (cc)
failed_behind (call ∷ later) calls is = or_behind (is_failed_read call) (has_failed_read later) (has_failed_read (later ++ calls)) (failed_behind later calls) is

-- so by all reads, where there was one look
pub looked_once : (disk : Unseen) (path : List ℕ) (calls : List Call) (told : Result Verdict NotRead) → ExaminesPath disk path told calls → ExaminesAtPath disk path told calls
looked_once disk path calls (Ok verdict) right = (calls, [], sym (append-nil calls), right)
looked_once disk path calls (Err Device) failed = failed
looked_once disk path calls (Err Memory) failed = tt

-- or by the last ones, where there were two
pub looked_twice : (disk : Unseen) (path : List ℕ) (calls later : List Call) (told : Result Verdict NotRead) → ExaminesPath disk path told later → ExaminesAtPath disk path told (later ++ calls)
looked_twice disk path calls later (Ok verdict) right = (later, calls, refl, right)
looked_twice disk path calls later (Err Device) failed = failed_behind later calls failed
looked_twice disk path calls later (Err Memory) failed = tt

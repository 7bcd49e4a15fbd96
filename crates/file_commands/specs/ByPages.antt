-- What is found of a file whose pages are read when they are wanted. All of this is ours.
use Rattle.std.specs.Prelude.{◌≡◌, ℕ, Bool, true, List, ◌++◌, IsTrue, Result, Ok, Err, ⊤}
use Rattle.io_state.specs.declared.fault.Fault.{Fault}
use Rattle.page_store.specs.DeviceFile.{content}
use Rattle.folder_shelf.specs.Answers.{are_answers_of}
use Rattle.folder_shelf.specs.Calls.{Call}
use Rattle.folder_shelf.specs.Replay.{Unseen}
use Rattle.file_commands.specs.Since.{has_failed_read}
use Rattle.file_checker.specs.declared.verdict.Verdict.{Verdict}
use Rattle.file_checker.specs.Sound.{IsRight}
use Rattle.file_commands.specs.declared.by_pages.NotRead.{NotRead}
use Rattle.file_commands.specs.declared.by_pages.NotRead.TheVariants.{Device, Memory}

-- where each answer to these reads was that of the files of a disk, this is so of the bytes of the one at a
-- path; one that is not there has none
abbrev pub OfFileAtPath : Unseen → (path : List ℕ) → (reads : List Call) → (IsSo : List ℕ → Type 0) → Type 0
OfFileAtPath disk path reads IsSo = IsTrue (are_answers_of disk.first reads) → IsSo (content (disk.first path))

-- so by the last of these calls, behind others
abbrev pub ByLastReads : Unseen → (path : List ℕ) → (calls : List Call) → (IsSo : List ℕ → Type 0) → Type 0
ByLastReads disk path calls IsSo = (reads : List Call) × (earlier : List Call) × (calls ≡ reads ++ earlier)
    × OfFileAtPath disk path reads IsSo

-- what was found of the file of a path is right, or a call on it failed, or memory was lacking
abbrev pub ExaminesPath : Unseen → (path : List ℕ) → Result Verdict NotRead → List Call → Type 0
ExaminesPath disk path (Ok verdict) calls = OfFileAtPath disk path calls (λ bytes. IsRight bytes verdict)
ExaminesPath disk path (Err Device) calls = has_failed_read calls ≡ true
ExaminesPath disk path (Err Memory) calls = ⊤

-- so by the last calls
abbrev pub ExaminesAtPath : Unseen → (path : List ℕ) → Result Verdict NotRead → List Call → Type 0
ExaminesAtPath disk path (Ok verdict) calls = ByLastReads disk path calls (λ bytes. IsRight bytes verdict)
ExaminesAtPath disk path (Err Device) calls = has_failed_read calls ≡ true
ExaminesAtPath disk path (Err Memory) calls = ⊤

-- what is found is told; a device that failed, where a call on the file did
abbrev pub IsFoundBy : Result Verdict Fault → Bool → Result Verdict NotRead → Type 0
IsFoundBy found has_failed (Ok verdict) = found ≡ Ok verdict
IsFoundBy found has_failed (Err Device) = has_failed ≡ true
IsFoundBy found has_failed (Err Memory) = ⊤

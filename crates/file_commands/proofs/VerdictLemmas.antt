-- The lines of files that are checked one after another.
use Rattle.std.proofs.Common.{◌≡◌, ℕ, List, [], ◌∷◌, ◌++◌, length, true, Option, Some, None, Result, Ok, Err, refl, sym, ap, subst, ◌∙◌, append-nil, append_assoc, arith}
use Rattle.std.specs.Io.KnownBytes.{Appends}
use Rattle.clap.specs.Words.{Text}
use Rattle.file_checker.specs.declared.verdict.Verdict.{Verdict}
use Rattle.command_support.specs.declared.outcome.WorstCheck.{WorstCheck}
use Rattle.command_support.specs.declared.outcome.WorstCheck.TheVariants.{AllSound}
use Rattle.folder_shelf.specs.Calls.{Call}
use Rattle.page_store.specs.DeviceFile.{content}
use Rattle.folder_shelf.specs.Replay.{Unseen}
use Rattle.file_commands.specs.Since.{has_failed_read}
use Rattle.system_files.specs.declared.cause.Cause.{Cause}
use Rattle.file_checker.specs.Sound.{IsRight}
use Rattle.file_commands.specs.ByPages.{ExaminesAtPath}
use Rattle.file_commands.specs.declared.by_pages.NotRead.{NotRead}
use Rattle.file_commands.specs.declared.by_pages.NotRead.TheVariants.{Device, Memory as NoMemory}
use Rattle.command_support.specs.declared.fault.CommandFault.{CommandFault}
use Rattle.command_support.specs.Front.{GivesSuch}
use Rattle.file_commands.specs.declared.verdict.NoVerdict.{NoVerdict}
use Rattle.file_commands.specs.declared.verdict.NoVerdict.TheVariants.{Unread, Memory}
use Rattle.file_commands.specs.Verdicts.{worse_of, IsFoundBy, FindsVerdict, WritesFound, WritesLine, WritesLineOf, WritesVerdicts}

pub no_paths : {X : Type 0} (paths : List X) → length paths ≡ 0 → paths ≡ []
no_paths [] none = refl
no_paths (path ∷ paths) none = absurd (omega arith)

appends_none : (out : Option (List ℕ)) → Appends out out []
appends_none None = tt
appends_none (Some xs) = sym (append-nil xs)

appends_twice : (before between behind : Option (List ℕ)) (xs ys : List ℕ) → Appends before between xs → Appends between behind ys → Appends before behind (xs ++ ys)
appends_twice None between behind xs ys first second = tt
appends_twice (Some p) None behind xs ys first second = absurd first
appends_twice (Some p) (Some q) None xs ys first second = absurd second
appends_twice (Some p) (Some q) (Some r) xs ys first second = second ∙ ap (λ (l : List ℕ). l ++ ys) first ∙ append_assoc p xs ys

-- of no files there are no lines
pub none_checked : (disk : Unseen) (out : Option (List ℕ)) → WritesVerdicts disk [] out out [] AllSound
none_checked disk out = record { found = []; right = refl; lines = []; are_lines = refl; written = appends_none out; worst_is = refl }

-- the line of one file, and then those of the others
pub one_more : (disk : Unseen) (path : Text) (paths : List Text) (before between behind : Option (List ℕ)) (calls later : List Call) (found : Option Verdict) (others : WorstCheck)
    → WritesLineOf disk path before between calls found → WritesVerdicts disk paths between behind later others → WritesVerdicts disk (path ∷ paths) before behind (later ++ calls) (worse_of found others)
one_more disk path paths before between behind calls later found others line rest = record {
  found = found ∷ rest.found;
  right = (calls, later, refl, line.0, rest.right);
  lines = line.1.0 ++ rest.lines;
  are_lines = (line.1.0, rest.lines, line.1.1, rest.are_lines, refl);
  written = appends_twice before between behind line.1.0 rest.lines line.1.2 rest.written;
  worst_is = ap (worse_of found) rest.worst_is;
}

-- a verdict on a file that was examined
pub found_verdict : (disk : Unseen) (path : List ℕ) (calls : List Call) (verdict : Verdict) → ExaminesAtPath disk path (Ok verdict) calls → FindsVerdict disk path (Ok verdict) calls
found_verdict disk path calls verdict found = record { right = found; unread = tt }

pub found_none : (disk : Unseen) (path : List ℕ) (calls : List Call) (why : NotRead) → ExaminesAtPath disk path (Err why) calls
    → (told : NoVerdict) → ((cause : Cause) → told ≡ Unread cause → why ≡ Device) → FindsVerdict disk path (Err told) calls
found_none disk path calls why found told is = record {
  right = tt;
  unread = λ cause same. failed why found (is cause same);
}
  where
    failed : (why : NotRead) → ExaminesAtPath disk path (Err why) calls → why ≡ Device → has_failed_read calls ≡ true
    failed Device found same = found
    failed NoMemory found same = absurd (cc)

-- the line of one of several files tells what was found of it
pub line_of : (disk : Unseen) (path : List ℕ) (before behind : Option (List ℕ)) (calls : List Call) (found : Result Verdict NoVerdict) (told : Result (Option Verdict) CommandFault) → FindsVerdict disk path found calls
    → GivesSuch (WritesFound path found before behind) told → GivesSuch (WritesLineOf disk path before behind calls) told
line_of disk path before behind calls found (Err fault) finds line = line
line_of disk path before behind calls (Ok verdict) (Ok it) finds line =
    subst (λ (x : Option Verdict). IsFoundBy disk path calls x × WritesLine path x before behind) (sym line.0) (finds.right, line.1)
line_of disk path before behind calls (Err (Unread cause)) (Ok it) finds line =
    subst (λ (x : Option Verdict). IsFoundBy disk path calls x × WritesLine path x before behind) (sym line.0) (finds.unread cause refl, line.1)
line_of disk path before behind calls (Err Memory) (Ok it) finds line = absurd line

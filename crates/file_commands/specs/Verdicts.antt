-- What is written of files that are checked, and what is worst of them. All of this is ours.
use Rattle.std.specs.Prelude.{◌≡◌, ℕ, true, List, [], ◌∷◌, ◌++◌, map, codes, decimal, Option, Some, None}
use Rattle.std.specs.Prelude.{Result, Ok, Err, IfOk, IfErr}
use Rattle.std.specs.Io.KnownBytes.{Appends}
use Rattle.clap.specs.Words.{Text}
use denote.Ref.{Bor}
use Rattle.file_checker.specs.Numbers.{number_of}
use Rattle.file_checker.specs.Sound.{IsRight}
use Rattle.file_checker.specs.declared.verdict.Verdict.{Verdict}
use Rattle.file_checker.specs.declared.verdict.Verdict.TheVariants.{Sound, Unsound}
use Rattle.record_text.specs.Columns.{text_of}
use Rattle.system_files.specs.declared.cause.Cause.{Cause}
use Rattle.folder_shelf.specs.Calls.{Call}
use Rattle.folder_shelf.specs.Replay.{Unseen}
use Rattle.file_commands.specs.Since.{has_failed_read}
use Rattle.file_commands.specs.ByPages.{ByLastReads}
use Rattle.file_commands.specs.declared.verdict.NoVerdict.{NoVerdict}
use Rattle.file_commands.specs.declared.verdict.NoVerdict.TheVariants.{Unread, Memory}
use Rattle.command_support.specs.Front.{GivesSuch}
use Rattle.command_support.specs.declared.fault.CommandFault.{CommandFault}
use Rattle.command_support.specs.declared.outcome.Outcome.{Outcome}
use Rattle.command_support.specs.declared.outcome.Outcome.TheVariants.{Checked, CheckedAll}
use Rattle.command_support.specs.declared.outcome.WorstCheck.{WorstCheck}
use Rattle.command_support.specs.declared.outcome.WorstCheck.TheVariants.{AllSound}
use Rattle.command_support.specs.declared.outcome.WorstCheck.TheVariants.{Unsound as OneUnsound}
use Rattle.command_support.specs.declared.outcome.WorstCheck.TheVariants.{Unread as OneUnread}

-- the line of a verdict: how many records and pages a sound file has, or the number of the reason
abbrev pub verdict_line : Verdict → List ℕ
verdict_line (Sound records pages) =
    codes "sound records " ++ (decimal records ++ (codes " pages " ++ (decimal pages ++ codes "\n")))
verdict_line (Unsound reason place) = codes "unsound " ++ (decimal (number_of reason) ++ codes "\n")

-- a line behind the path of its file, which is shown as records are
abbrev pub behind_path : (path line : List ℕ) → List ℕ
behind_path path line = text_of path ++ (codes ": " ++ line)

-- the line of a file that cannot be read, with a cause in printable text
abbrev pub IsUnreadLine : (path line : List ℕ) → Type 0
IsUnreadLine path line = (cause : List ℕ)
    × (line ≡ behind_path path (codes "cannot be read: " ++ (text_of cause ++ codes "\n")))

-- what is found of a file: a verdict, unless it cannot be read
abbrev pub IsFileLine : (path : List ℕ) → Option Verdict → (line : List ℕ) → Type 0
IsFileLine path (Some verdict) line = line ≡ behind_path path (verdict_line verdict)
IsFileLine path None line = IsUnreadLine path line

-- a line of each file, in the order of their paths
abbrev pub AreFileLines : (paths : List Text) → List (Option Verdict) → (lines : List ℕ) → Type 0
AreFileLines [] [] lines = lines ≡ []
AreFileLines [] (found ∷ more) lines = ⊥
AreFileLines (path ∷ paths) [] lines = ⊥
AreFileLines (path ∷ paths) (found ∷ more) lines =
    (line : List ℕ) × (rest : List ℕ) × IsFileLine path found line × AreFileLines paths more rest
    × (lines ≡ line ++ rest)

-- where each answer to the last of these calls was that of the files of a disk, the verdict is right of the
-- bytes of the one at a path; or one of them failed
abbrev pub IsFoundBy : Unseen → (path : List ℕ) → List Call → Option Verdict → Type 0
IsFoundBy disk path calls (Some verdict) = ByLastReads disk path calls (λ bytes. IsRight bytes verdict)
IsFoundBy disk path calls None = has_failed_read calls ≡ true

-- so of each file, in the order of their paths
abbrev pub AreFoundBy : Unseen → (paths : List Text) → List Call → List (Option Verdict) → Type 0
AreFoundBy disk [] calls [] = calls ≡ []
AreFoundBy disk [] calls (found ∷ more) = ⊥
AreFoundBy disk (path ∷ paths) calls [] = ⊥
AreFoundBy disk (path ∷ paths) calls (found ∷ more) = (before : List Call) × (later : List Call)
    × (calls ≡ later ++ before) × IsFoundBy disk path before found × AreFoundBy disk paths later more

-- what is worst where a file is not sound beside others
abbrev pub or_unsound : WorstCheck → WorstCheck
or_unsound AllSound = OneUnsound
or_unsound OneUnsound = OneUnsound
or_unsound OneUnread = OneUnread

-- what is worst of a file and of others
abbrev pub worse_of : Option Verdict → WorstCheck → WorstCheck
worse_of None others = OneUnread
worse_of (Some (Sound records pages)) others = others
worse_of (Some (Unsound reason place)) others = or_unsound others

-- what is worst of files: that one cannot be read, then that one is not sound
abbrev pub worst_of : List (Option Verdict) → WorstCheck
worst_of [] = AllSound
worst_of (found ∷ more) = worse_of found (worst_of more)

-- files were checked: what was found of each is right, and the lines of all of them were written, in
-- their order
pub record WritesVerdicts (disk : Unseen) (paths : List Text) (before behind : Option (List ℕ))
    (calls : List Call) (worst : WorstCheck) : Type 0 where
  pub found : List (Option Verdict)
  pub right : AreFoundBy disk paths calls found
  pub lines : List ℕ
  pub are_lines : AreFileLines paths found lines
  pub written : Appends before behind lines
  pub worst_is : worst ≡ worst_of found

-- the line of one of several files was written
abbrev pub WritesLine : (path : List ℕ) → Option Verdict → (before behind : Option (List ℕ)) → Type 0
WritesLine path found before behind = (line : List ℕ) × IsFileLine path found line × Appends before behind line

-- so, and what was found of it is right
abbrev pub WritesLineOf : Unseen → (path : List ℕ) → (before behind : Option (List ℕ)) → List Call
    → Option Verdict → Type 0
WritesLineOf disk path before behind calls found =
    IsFoundBy disk path calls found × WritesLine path found before behind

-- the file of a path was checked, and the line of the verdict was written
abbrev pub ChecksFile : {W : Type 0} → Unseen → (path : List ℕ) → (W → Option (List ℕ)) → (old new : W)
    → List Call → Outcome → Type 0
ChecksFile disk path contents old new calls outcome = (verdict : Verdict) × (outcome ≡ Checked verdict)
    × IsFoundBy disk path calls (Some verdict) × Appends (contents old) (contents new) (verdict_line verdict)

-- where the output did not fail, one of several files was checked so
abbrev pub ChecksNamed : Unseen → (path : List ℕ) → (before behind : Option (List ℕ))
    → Result (Option Verdict) CommandFault → List Call → Type 0
ChecksNamed disk path before behind result calls = GivesSuch (WritesLineOf disk path before behind calls) result

-- or all of them
abbrev pub ChecksAll : Unseen → (paths : List Text) → (before behind : Option (List ℕ))
    → Result WorstCheck CommandFault → List Call → Type 0
ChecksAll disk paths before behind result calls = GivesSuch (WritesVerdicts disk paths before behind calls) result

-- the paths of files
abbrev pub paths_of : List (Bor (List ℕ)) → List Text
paths_of paths = map (λ path. path.now) paths

-- the files of paths were checked, and a line of each was written
abbrev pub ChecksFiles : {W : Type 0} → Unseen → List (Bor (List ℕ)) → (W → Option (List ℕ)) → (old new : W)
    → List Call → Outcome → Type 0
ChecksFiles disk paths contents old new calls outcome = (worst : WorstCheck) × (outcome ≡ CheckedAll worst)
    × WritesVerdicts disk (paths_of paths) (contents old) (contents new) calls worst

-- a verdict was found of the file of a path; or it cannot be read
pub record FindsVerdict (disk : Unseen) (path : List ℕ) (result : Result Verdict NoVerdict) (calls : List Call)
    : Type 0 where
  pub right : IfOk result (λ verdict. IsFoundBy disk path calls (Some verdict))
  pub unread : IfErr result (λ why. (cause : Cause) → why ≡ Unread cause → IsFoundBy disk path calls None)

-- the line of one of several files was written by what was found of it, and that is told
abbrev pub WritesFound : (path : List ℕ) → Result Verdict NoVerdict → (before behind : Option (List ℕ))
    → Option Verdict → Type 0
WritesFound path (Ok verdict) before behind told =
    (told ≡ Some verdict) × WritesLine path (Some verdict) before behind
WritesFound path (Err (Unread cause)) before behind told = (told ≡ None) × WritesLine path None before behind
WritesFound path (Err Memory) before behind told = ⊥

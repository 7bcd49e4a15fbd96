-- What is counted of a file.
use Rattle.std.specs.Prelude.{◌≡◌, ◌≢◌, List, ℕ, Option, Result, Ok, Err, IfOk, IfErr}
use Rattle.file_checker.specs.declared.verdict.Reason.{Reason}
use Rattle.pages.specs.declared.fault_place.FaultPlace.{FaultPlace}
use Rattle.file_reports.specs.StatisticsListing.{EndsStatisticsWith}
use Rattle.file_reports.specs.declared.statistics_listing.FileStatisticsEnd.{FileStatisticsEnd}
use Rattle.file_reports.specs.declared.statistics_listing.FileStatisticsEnd.TheVariants.{Unsound}
use Rattle.file_reports.specs.declared.statistics_listing.StatisticsFault.{StatisticsFault}
use Rattle.file_reports.specs.declared.statistics_listing.StatisticsFault.TheVariants.{Output}
use Rattle.folder_shelf.specs.Calls.{Call}
use Rattle.folder_shelf.specs.Replay.{Unseen}
use Rattle.file_commands.specs.ByPages.{OfFileAtPath, ByLastReads}
use Rattle.command_support.specs.declared.outcome.Outcome.{Outcome}
use Rattle.command_support.specs.declared.outcome.Outcome.TheVariants.{Counted}

-- what the file of a path has was counted and written by reads, of whose file this is said by what they
-- are; of a file that is not sound nothing was written, and where it failed only a part of the lines
pub record CountsOfFile (OfFile : (List ℕ → Type 0) → Type 0) (before behind : Option (List ℕ))
    (result : Result FileStatisticsEnd StatisticsFault) : Type 0 where
  pub ends : IfOk result (λ end. OfFile (λ bytes. EndsStatisticsWith bytes before behind end))
  pub unlisted : (reason : Reason) (place : FaultPlace) → result ≡ Ok (Unsound reason place) → behind ≡ before
  pub untouched : IfErr result (λ fault. fault ≢ Output → behind ≡ before)

-- by these reads
abbrev pub CountsPath : Unseen → (path : List ℕ) → (before behind : Option (List ℕ))
    → Result FileStatisticsEnd StatisticsFault → List Call → Type 0
CountsPath disk path before behind result calls = CountsOfFile (OfFileAtPath disk path calls) before behind result

-- by the last of these calls
abbrev pub CountsAtPath : Unseen → (path : List ℕ) → (before behind : Option (List ℕ))
    → Result FileStatisticsEnd StatisticsFault → List Call → Type 0
CountsAtPath disk path before behind result calls = CountsOfFile (ByLastReads disk path calls) before behind result

-- what the file of the path has was counted and written, and this is how that ended
abbrev pub CountsFileAt : {W : Type 0} → Unseen → (path : List ℕ) → (W → Option (List ℕ)) → (old new : W)
    → List Call → Outcome → Type 0
CountsFileAt disk path contents old new calls outcome = (end : FileStatisticsEnd) × (outcome ≡ Counted end)
    × ByLastReads disk path calls (λ bytes. EndsStatisticsWith bytes (contents old) (contents new) end)
    × ((reason : Reason) (place : FaultPlace) → end ≡ Unsound reason place → contents new ≡ contents old)

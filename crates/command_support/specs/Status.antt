-- The exit status. All of this is ours.
use Rattle.std.specs.Prelude.{◌≡◌, ◌⊎◌, ℕ, Bool, true, false, Result, Ok, Err}
use Rattle.file_checker.specs.declared.verdict.Verdict.{Verdict}
use Rattle.file_checker.specs.declared.verdict.Verdict.TheVariants.{Sound, Unsound}
use Rattle.record_listing.specs.declared.file_list.FileList.{FileList}
use Rattle.record_listing.specs.declared.file_list.FileList.TheVariants.{Listed as RecordsListed, NoKey}
use Rattle.record_listing.specs.declared.file_list.FileList.TheVariants.{Unsound as NoFile}
use Rattle.file_reports.specs.declared.comparing.Comparison.{Comparison}
use Rattle.file_reports.specs.declared.comparing.Comparison.TheVariants.{Same, Different}
use Rattle.record_loading.specs.Answer.{is_loaded}
use Rattle.record_loading.specs.declared.shelf_end.ShelfEnd.{ShelfEnd}
use Rattle.record_loading.specs.declared.shelf_end.ShelfEnd.TheVariants.{IsThere, Loaded as LoadEnds}
use Rattle.file_reports.specs.declared.statistics_listing.FileStatisticsEnd.{FileStatisticsEnd}
use Rattle.file_reports.specs.declared.statistics_listing.FileStatisticsEnd.TheVariants.{Listed as CountListed}
use Rattle.file_reports.specs.declared.statistics_listing.FileStatisticsEnd.TheVariants.{Unsound as NotCounted}
use Rattle.command_support.specs.declared.fault.CommandFault.{CommandFault}
use Rattle.command_support.specs.declared.fault.CommandFault.TheVariants.{Deck, NotListed, NoSuchFile, NoSuchKey, LoneKeyName}
use Rattle.command_support.specs.declared.fault.CommandFault.TheVariants.{Form as NoForm, Unexplained, LongValue, NoFileName}
use Rattle.command_support.specs.declared.fault.CommandFault.TheVariants.{Condition as NoCondition, LoneRejects}
use Rattle.command_support.specs.declared.fault.CommandFault.TheVariants.{Usage, Input, Output, Memory}
use Rattle.command_support.specs.declared.outcome.WorstCheck.{WorstCheck}
use Rattle.command_support.specs.declared.outcome.WorstCheck.TheVariants.{AllSound}
use Rattle.command_support.specs.declared.outcome.WorstCheck.TheVariants.{Unsound as SomeUnsound}
use Rattle.command_support.specs.declared.outcome.WorstCheck.TheVariants.{Unread as SomeUnread}
use Rattle.command_support.specs.declared.outcome.Outcome.{Outcome}
use Rattle.command_support.specs.declared.outcome.Outcome.TheVariants.{Helped, Checked, Ended, Served}
use Rattle.command_support.specs.declared.outcome.Outcome.TheVariants.{SchemaTold, SchemaCompared}
use Rattle.command_support.specs.declared.outcome.Outcome.TheVariants.{SchemaRefused, Explained, Listed}
use Rattle.command_support.specs.declared.outcome.Outcome.TheVariants.{CheckedAll, Records, InCobol, Loaded}
use Rattle.command_support.specs.declared.outcome.Outcome.TheVariants.{Counted, OtherSchema, Salvaged, Copied}
use Rattle.file_building.specs.declared.end.CopyEnd.{CopyEnd}
use Rattle.file_building.specs.declared.end.CopyEnd.TheVariants.{Whole, Refused, Damaged, Full}
use Rattle.file_building.specs.declared.end.CopyEnd.TheVariants.{IsThere as NewIsThere, NoKey as LacksKey}
use Rattle.salvaged_records.specs.declared.salvaging.Salvage.{Salvage}
use Rattle.salvaged_records.specs.declared.salvaging.Salvage.TheVariants.{All as AllSalvaged, Slots}
use Rattle.salvaged_records.specs.declared.salvaging.Salvage.TheVariants.{Unsound as NotSalvaged}

-- the exit status that tells a fault
abbrev pub status_of : CommandFault → ℕ
status_of (NoSuchKey _) = 1
status_of (Deck _) = 2
status_of (NotListed _) = 2
status_of NoSuchFile = 3
status_of (NoForm _) = 3
status_of (NoCondition _) = 3
status_of Unexplained = 3
status_of LongValue = 3
status_of LoneKeyName = 3
status_of LoneRejects = 3
status_of NoFileName = 3
status_of (Usage _) = 3
status_of Input = 4
status_of Output = 4
status_of Memory = 4

-- the exit status that tells a verdict
abbrev pub status_by : Verdict → ℕ
status_by (Sound records pages) = 0
status_by (Unsound reason place) = 1

-- the exit status that tells what became of the list of a file
abbrev pub status_of_list : FileList → ℕ
status_of_list RecordsListed = 0
status_of_list NoKey = 1
status_of_list (NoFile reason) = 1

-- the exit status that tells what is worst of several files: that one cannot be read
abbrev pub status_of_worst : WorstCheck → ℕ
status_of_worst AllSound = 0
status_of_worst SomeUnsound = 1
status_of_worst SomeUnread = 4

-- the exit status that tells whether all lines were loaded
abbrev pub status_where : Bool → ℕ
status_where true = 0
status_where false = 1

-- the exit status that tells whether the schema of a file is that of a deck
abbrev pub status_of_comparison : Comparison → ℕ
status_of_comparison Same = 0
status_of_comparison Different = 1

-- the exit status that tells what became of a load
abbrev pub status_of_load : ShelfEnd → ℕ
status_of_load IsThere = 1
status_of_load (LoadEnds end) = status_where (is_loaded end)

-- the exit status that tells whether the pages of a file were counted
abbrev pub status_of_count : FileStatisticsEnd → ℕ
status_of_count CountListed = 0
status_of_count (NotCounted reason place) = 1

-- the exit status that tells whether all records of a file were salvaged
abbrev pub status_of_salvage : Salvage → ℕ
status_of_salvage (AllSalvaged records) = 0
status_of_salvage (Slots records told) = 1
status_of_salvage (NotSalvaged reason) = 1

-- the exit status that tells what became of a copy: that the new file may have no more pages is a fault of
-- the output
abbrev pub status_of_copy : CopyEnd → ℕ
status_of_copy (Whole copied) = 0
status_of_copy Refused = 1
status_of_copy LacksKey = 1
status_of_copy Damaged = 1
status_of_copy NewIsThere = 1
status_of_copy Full = 4

-- the exit status that tells what was done: that a run or a session ended, whatever its verbs
-- answered, a verdict, whether a file has a schema, that of a deck, or a list, or whether all lines
-- were loaded
abbrev pub status_for : Outcome → ℕ
status_for Helped = 0
status_for (Checked verdict) = status_by verdict
status_for (Ended end) = 0
status_for Served = 0
status_for SchemaTold = 0
status_for (SchemaCompared told) = status_of_comparison told
status_for (SchemaRefused refusal) = 1
status_for Explained = 0
status_for Listed = 0
status_for (CheckedAll worst) = status_of_worst worst
status_for (Records list) = status_of_list list
status_for OtherSchema = 1
status_for InCobol = 0
status_for (Loaded end) = status_of_load end
status_for (Counted end) = status_of_count end
status_for (Salvaged end) = status_of_salvage end
status_for (Copied end) = status_of_copy end

-- the exit status that tells what happened
abbrev pub exit_status : Result Outcome CommandFault → ℕ
exit_status (Ok outcome) = status_for outcome
exit_status (Err fault) = status_of fault

-- a run that ended or a file that is sound; a file that is not; or one of the faults
abbrev pub IsExitStatus : ℕ → Type 0
IsExitStatus status = (status ≡ 0) ⊎ (status ≡ 1) ⊎ (status ≡ 2) ⊎ (status ≡ 3) ⊎ (status ≡ 4)

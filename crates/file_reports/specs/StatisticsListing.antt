-- What is promised of the statistics of a file. All of this is ours.
use Rattle.std.specs.Prelude.{◌≡◌, ◌≢◌, ◌≤◌, ◌+◌, ◌-◌, ◌^◌, min, ℕ, List, length, Option, IsTrue}
use Rattle.std.specs.Prelude.{Result, Ok, Err, IfOk, IfErr}
use Rattle.std.specs.Global.{Vec}
use Rattle.pages.specs.Chunks.{chunks}
use Rattle.pages.specs.declared.fault_place.FaultPlace.{FaultPlace}
use Rattle.pages.specs.declared.walk_fault.WalkFault.{WalkFault}
use Rattle.pages.specs.declared.walk_fault.WalkFault.TheVariants.{At, Memory as NoMemory}
use Rattle.page_store.specs.ShelfState.{ShelfState, OnlyAnswers, unit_file}
use Rattle.file_checker.specs.declared.verdict.Reason.{Reason}
use Rattle.file_reports.specs.declared.statistics_listing.StatisticsFault.{StatisticsFault}
use Rattle.file_reports.specs.declared.statistics_listing.StatisticsFault.TheVariants.{Input, Output, Memory}
use Rattle.std.specs.Io.KnownBytes.{Appends}
use Rattle.record_layout.specs.Schema.{Schema}
use Rattle.indexed_file.specs.File.{File}
use Rattle.page_store.specs.DeviceFile.{content, page_of_bytes}
use Rattle.shelf_library.specs.ClosedFile.{AreClosed}
use Rattle.file_checker.specs.Sound.{IsSound, IsUnsoundAt}
use Rattle.file_reports.specs.declared.statistics.FileStatistics.{FileStatistics}
use Rattle.file_reports.specs.declared.statistics_listing.FileStatisticsEnd.{FileStatisticsEnd}
use Rattle.file_reports.specs.declared.statistics_listing.FileStatisticsEnd.TheVariants.{Listed, Unsound}
use Rattle.file_reports.specs.StatisticsLines.{statistics_text}
use Rattle.file_reports.specs.Statistics.{HasStatistics}

-- the bytes stand for a file of a schema, and this text tells what is counted of it
pub record IsTextFor (bytes text : List ℕ) : Type 0 where
  pub schema : Schema
  pub file : File
  pub closed : AreClosed schema file bytes
  pub counts : FileStatistics
  pub counted : HasStatistics (page_of_bytes bytes) closed.header file counts
  pub text_is : text ≡ statistics_text counts

-- such a text was written
abbrev pub WritesText : List ℕ → (before behind : Option (List ℕ)) → Type 0
WritesText bytes before behind = (text : List ℕ) × IsTextFor bytes text × Appends before behind text

-- the bytes are those of a sound file, whose first page counts so many pages
abbrev pub IsSoundWith : List ℕ → ℕ → Type 0
IsSoundWith bytes count = (records : ℕ) × IsSound bytes records count

-- these are the pages of a sound file that has these bytes
pub record ArePagesOf (bytes : List ℕ) (list : List (List ℕ)) : Type 0 where
  pub sound : IsSoundWith bytes (length list)
  pub are : list ≡ chunks 4096 (length list) bytes

abbrev pub IsOfSound : List (List ℕ) → Type 0
IsOfSound list = (bytes : List ℕ) × ArePagesOf bytes list

-- this is the text of each file that has these pages
abbrev pub TellsEach : List (List ℕ) → (text : List ℕ) → Type 0
TellsEach list text = (bytes : List ℕ) → ArePagesOf bytes list → IsTextFor bytes text

-- lines were written, if there are some; or the writer refused them, or there are none, for this reason
abbrev pub WritesCounts : Result (Vec ℕ) WalkFault → (before behind : Option (List ℕ))
    → Result Unit StatisticsFault → Type 0
WritesCounts (Ok lines) before behind (Ok done) = Appends before behind lines.items
WritesCounts (Ok lines) before behind (Err fault) = fault ≡ Output
WritesCounts (Err fault) before behind (Ok done) = ⊥
WritesCounts (Err NoMemory) before behind (Err fault) = (fault ≡ Memory) × (behind ≡ before)
WritesCounts (Err (At what place)) before behind (Err fault) = (fault ≡ Input) × (behind ≡ before)

-- It ends so: the text of a sound file was written; or nothing was, since this reason holds, there.
abbrev pub EndsStatisticsWith : List ℕ → (before behind : Option (List ℕ)) → FileStatisticsEnd → Type 0
EndsStatisticsWith bytes before behind Listed = WritesText bytes before behind
EndsStatisticsWith bytes before behind (Unsound reason place) = IsUnsoundAt place bytes reason
    × (behind ≡ before)

-- of shelves that show this state and count their faults so
module _ {H : Type 0} (state : H → ShelfState) (count : H → ℕ) where
  -- calls that only answer: where the shelf is honest, the text of the unit's file was written, or a check
  -- finds it unsound; and a file that cannot be read is one of which a call failed
  pub record ListsStatistics (unit : ℕ) (before after : H) (out out_after : Option (List ℕ))
      (result : Result FileStatisticsEnd StatisticsFault) : Type 0 where
    pub ends : IfOk result (λ end. IsTrue (state after).is_honest
        → EndsStatisticsWith (content (unit_file (state before) unit)) out out_after end)
    pub only : OnlyAnswers (state before) (state after)
    pub unlisted : (reason : Reason) (place : FaultPlace) → result ≡ Ok (Unsound reason place) → out_after ≡ out
    pub untouched : IfErr result (λ fault. fault ≢ Output → out_after ≡ out)
    pub cause : result ≡ Err Input → IsTrue (state after).is_honest
        → min (count before + 1) (2 ^ 64 - 1) ≤ count after

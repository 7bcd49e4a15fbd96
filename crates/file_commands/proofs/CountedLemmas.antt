-- What is counted of a file by the reads of a shelf.
use Rattle.std.proofs.Common.{◌≡◌, ◌≢◌, ℕ, false, List, [], ◌∷◌, ◌++◌, Option, Result, Ok, Err, refl, sym, ap, subst, ◌∙◌, append-nil}
use Rattle.std.specs.Prelude.{IsTrue, IfOk, OnOk}
use Rattle.std.specs.Result.{is_err}
use Rattle.pages.specs.declared.fault_place.FaultPlace.{FaultPlace}
use Rattle.page_store.specs.DeviceFile.{content}
use Rattle.page_store.specs.ShelfState.{ShelfState, attached_as, unit_file}
use Rattle.folder_shelf.specs.Answers.{are_answers_of}
use Rattle.folder_shelf.specs.Calls.{Call}
use Rattle.folder_shelf.specs.Replay.{Unseen}
use Rattle.folder_shelf.specs.Shelf.{shelf_after}
use Rattle.file_checker.specs.declared.verdict.Reason.{Reason}
use Rattle.file_reports.specs.declared.statistics_listing.StatisticsFault.{StatisticsFault}
use Rattle.file_reports.specs.declared.statistics_listing.StatisticsFault.TheVariants.{Input, Memory}
use Rattle.file_reports.specs.declared.statistics_listing.FileStatisticsEnd.{FileStatisticsEnd}
use Rattle.file_reports.specs.declared.statistics_listing.FileStatisticsEnd.TheVariants.{Unsound}
use Rattle.file_reports.specs.StatisticsListing.{EndsStatisticsWith, ListsStatistics}
use Rattle.file_commands.specs.ByPages.{OfFileAtPath, ByLastReads}
use Rattle.file_commands.specs.Counted.{CountsPath, CountsAtPath}

-- no call was made for want of memory
pub not_counted : (disk : Unseen) (path : List ℕ) (out : Option (List ℕ)) (calls : List Call) → CountsPath disk path out out (Err Memory) calls
not_counted disk path out calls = record { ends = tt; unlisted = λ reason place is. absurd (cc); untouched = λ not. refl }

-- a shelf to which the empty name alone was given
pub named_alone : (disk : Unseen) (path name : List ℕ) (fresh shelf : ShelfState) {T E : Type 0} (given : Result T E) → OnOk given (shelf ≡ attached_as (name ∷ []) fresh) → is_err given ≡ false → name ≡ []
    → fresh ≡ shelf_after disk.first path [] [] → shelf ≡ attached_as ([] ∷ []) (shelf_after disk.first path [] [])
named_alone disk path name fresh shelf (Ok done) named well empty shows =
    named ∙ ap (λ (n : List ℕ). attached_as (n ∷ []) fresh) empty ∙ ap (λ (s : ShelfState). attached_as ([] ∷ []) s) shows
named_alone disk path name fresh shelf (Err fault) named well empty shows = absurd (cc)

module _ (disk : Unseen) (path : List ℕ) (before behind : Option (List ℕ)) (calls : List Call) where
  -- what a shelf lists of its file, which is that of the path
  module _ {H : Type 0} (state : H → ShelfState) (count : H → ℕ) (shelf after : H) (first : state shelf ≡ attached_as ([] ∷ []) (shelf_after disk.first path [] []))
      (honest : (state after).is_honest ≡ are_answers_of disk.first calls) where
    ends_of : (result : Result FileStatisticsEnd StatisticsFault)
        → IfOk result (λ end. IsTrue (state after).is_honest → EndsStatisticsWith (content (unit_file (state shelf) 0)) before behind end)
        → IfOk result (λ end. OfFileAtPath disk path calls (λ bytes. EndsStatisticsWith bytes before behind end))
    ends_of (Ok end) ends = λ answers. subst (λ (s : ShelfState). EndsStatisticsWith (content (unit_file s 0)) before behind end) first (ends (subst IsTrue (sym honest) answers))
    ends_of (Err fault) ends = tt

    pub counted_of : (result : Result FileStatisticsEnd StatisticsFault) → ListsStatistics state count 0 shelf after before behind result → CountsPath disk path before behind result calls
    counted_of result lists = record { ends = ends_of result lists.ends; unlisted = lists.unlisted; untouched = lists.untouched }

  -- so by all reads, where there was one count
  last_of : (result : Result FileStatisticsEnd StatisticsFault) (earlier all : List Call) → all ≡ calls ++ earlier
      → IfOk result (λ end. OfFileAtPath disk path calls (λ bytes. EndsStatisticsWith bytes before behind end))
      → IfOk result (λ end. ByLastReads disk path all (λ bytes. EndsStatisticsWith bytes before behind end))
  last_of (Ok end) earlier all is ends = (calls, earlier, is, ends)
  last_of (Err fault) earlier all is ends = tt

  pub counted_once : (result : Result FileStatisticsEnd StatisticsFault) → CountsPath disk path before behind result calls → CountsAtPath disk path before behind result calls
  counted_once result counts = record { ends = last_of result [] calls (sym (append-nil calls)) counts.ends; unlisted = counts.unlisted; untouched = counts.untouched }

  -- or by the last ones, where there were two
  behind_others : (result : Result FileStatisticsEnd StatisticsFault) (earlier : List Call) → CountsPath disk path before behind result calls → CountsAtPath disk path before behind result (calls ++ earlier)
  behind_others result earlier counts = record { ends = last_of result earlier (calls ++ earlier) refl counts.ends; unlisted = counts.unlisted; untouched = counts.untouched }

  -- an end is told
  pub counted_file : (end : FileStatisticsEnd) → CountsAtPath disk path before behind (Ok end) calls
      → (reason : Reason) (place : FaultPlace) → end ≡ Unsound reason place → behind ≡ before
  counted_file end counts reason place is = counts.unlisted reason place (ap (λ (e : FileStatisticsEnd). Ok e) is)

pub counted_twice : (disk : Unseen) (path : List ℕ) (before between behind : Option (List ℕ)) (calls later : List Call) (result : Result FileStatisticsEnd StatisticsFault)
    → (end : Result FileStatisticsEnd StatisticsFault) → end ≡ Err Input → CountsPath disk path before between end calls → CountsPath disk path between behind result later
    → CountsAtPath disk path before behind result (later ++ calls)
counted_twice disk path before between behind calls later result end failed first second =
    let not : CountsPath disk path before between (Err Input) calls = subst (λ (r : Result FileStatisticsEnd StatisticsFault). CountsPath disk path before between r calls) failed first in
    let same : between ≡ before = not.untouched (λ is. absurd (cc)) in
    subst (λ (out : Option (List ℕ)). CountsAtPath disk path out behind result (later ++ calls)) same (behind_others disk path between behind later result calls second)

-- What is listed of the file of a unit.
use Rattle.std.proofs.Common.{◌≡◌, ◌≢◌, ◌≤◌, ℕ, Bool, true, List, length, Option, Result, Ok, Err, inl, inr, refl, sym, ap, subst, ◌∙◌, arith}
use Rattle.std.specs.Prelude.{IsTrue, IfOk, IfErr, is_some, Some, None}
use Rattle.std.specs.Global.{Vec}
use Rattle.io_state.specs.declared.fault.Fault.TheVariants.{Device}
use Rattle.pages.specs.Chunks.{chunks}
use Rattle.pages.proofs.ChunkLemmas.{length-chunks}
use Rattle.pages.specs.Refused.{RefusesRightly}
use Rattle.pages.specs.declared.walk_fault.WalkFault.{WalkFault}
use Rattle.pages.specs.declared.walk_fault.WalkFault.TheVariants.{At, Memory as NoMemory}
use Rattle.pages.specs.declared.fault_place.FaultPlace.{FaultPlace}
use Rattle.page_store.specs.DeviceFile.{DeviceFile, content}
use Rattle.page_store.specs.Pages.{HoldsPages}
use Rattle.page_store.specs.ShelfState.{ShelfState, OnlyAnswers, WhereHonest, unit_file}
use Rattle.page_store.proofs.GateLemmas.{same_file}
use Rattle.file_checker.specs.declared.verdict.Reason.{Reason}
use Rattle.file_checker.specs.Asked.{HasOnlyAnswered, first_pages_of}
use Rattle.file_checker.specs.Sound.{IsUnsoundAt}
use Rattle.file_checker.specs.UnitChecking.{IsUnitFault}
use Rattle.file_checker.proofs.UnitLemmas.{only_then}
use Rattle.file_reports.specs.declared.statistics_listing.StatisticsFault.{StatisticsFault}
use Rattle.file_reports.specs.declared.statistics_listing.StatisticsFault.TheVariants.{Input, Output, Memory}
use Rattle.file_reports.specs.declared.statistics_listing.FileStatisticsEnd.{FileStatisticsEnd}
use Rattle.file_reports.specs.declared.statistics_listing.FileStatisticsEnd.TheVariants.{Listed, Unsound}
use Rattle.file_reports.specs.StatisticsListing.{ArePagesOf, IsOfSound, IsSoundWith, EndsStatisticsWith, ListsStatistics, TellsEach, WritesCounts, WritesText}

-- the first pages of a sound file, as many as it has
pub pages_are : (bytes : List ℕ) (count : ℕ) → IsSoundWith bytes count → ArePagesOf bytes (chunks 4096 count bytes)
pages_are bytes count sound =
    let many = length-chunks 4096 count bytes in
    record {
      sound = subst (IsSoundWith bytes) (sym many) sound;
      are = sym (ap (λ (n : ℕ). chunks 4096 n bytes) many);
    }

-- a sound file is there, with all pages that its first page counts
pub holds_pages : (file : DeviceFile) (count : ℕ) → IsSoundWith (content file) count → HoldsPages count file
holds_pages file count sound =
    let header = sound.1.header in
    let whole = sound.1.accepted.whole in
    let are = sound.1.pages_are in
    let counted = sound.1.accepted.first.allowed.within.counted in
    record {
      there = there file.seen (let long : 1 ≤ length (content file) = omega (arith, whole, counted) in long);
      long = omega (arith, whole, are, counted);
    }
  where
    there : (seen : Option (List ℕ)) → 1 ≤ length (content (record { seen = seen; log = file.log })) → IsTrue (is_some seen)
    there None long = absurd (omega (arith, long))
    there (Some bytes) long = refl

module _ (list : List (List ℕ)) (bytes : List ℕ) (pages : ArePagesOf bytes list) (before behind : Option (List ℕ)) where
  -- lines that tell each file of these pages were written
  pub text_written : (lines : Result (Vec ℕ) WalkFault) (done : Unit) → IfOk lines (λ l. TellsEach list l.items) → WritesCounts lines before behind (Ok done) → WritesText bytes before behind
  text_written (Ok lines) done tells wrote = (lines.items, tells bytes pages, wrote)
  text_written (Err NoMemory) done tells wrote = absurd wrote
  text_written (Err (At what place)) done tells wrote = absurd wrote

  -- or none, and not for want of input
  pub never_input : (lines : Result (Vec ℕ) WalkFault) (fault : StatisticsFault) → IfErr lines (RefusesRightly (IsOfSound list)) → WritesCounts lines before behind (Err fault) → fault ≡ Input → ⊥
  never_input (Ok lines) fault refused wrote is = absurd (let e : Output ≡ Input = sym wrote ∙ is in cc)
  never_input (Err NoMemory) fault refused wrote is = absurd (let e : Memory ≡ Input = sym wrote.0 ∙ is in cc)
  never_input (Err (At what place)) fault refused wrote is = refused (bytes, pages)

-- where the writer did not refuse lines, nothing was written
pub untouched_by : (before behind : Option (List ℕ)) (lines : Result (Vec ℕ) WalkFault) (fault : StatisticsFault) → WritesCounts lines before behind (Err fault) → fault ≢ Output → behind ≡ before
untouched_by before behind (Ok lines) fault wrote not = absurd (not wrote)
untouched_by before behind (Err NoMemory) fault wrote not = wrote.1
untouched_by before behind (Err (At what place)) fault wrote not = wrote.1

-- ---- what is listed by a shelf that was as is known, and has only answered since

module _ {H : Type 0} (state : H → ShelfState) (faults : H → ℕ) (unit count : ℕ) (shelf after : H) (known : ShelfState) (known_faults asked many : ℕ) (same : state shelf ≡ known)
    (same_faults : faults shelf ≡ known_faults) (same_unit : unit ≡ asked) (same_count : count ≡ many) (has_failed : Bool)
    (answered : HasOnlyAnswered known known_faults (state after) (faults after) has_failed) where
  only_answers : OnlyAnswers (state shelf) (state after)
  only_answers = subst (λ (s : ShelfState). OnlyAnswers s (state after)) (sym same) answered.only

  -- a call failed
  pub not_read : (out : Option (List ℕ)) → has_failed ≡ true → ListsStatistics state faults unit shelf after out out (Err Input)
  not_read out failed = record {
    ends = tt;
    only = only_answers;
    unlisted = λ reason place is. absurd (cc);
    untouched = λ not. refl;
    cause = λ is honest. (let rose = answered.counted (subst IsTrue (sym failed) refl) in omega (arith, rose, same_faults));
  }

  -- or none did, and these are the pages of a file that was found sound
  module _ (sound : WhereHonest (state shelf) unit (λ file. IsSoundWith (content file) count)) (lines : Result (Vec ℕ) WalkFault) (out out_after : Option (List ℕ)) where
    abbrev bytes_there : List ℕ
    bytes_there = content (unit_file (state shelf) unit)

    its_pages : IsTrue (state after).is_honest → ArePagesOf bytes_there (first_pages_of known asked many)
    its_pages honest =
        let list : chunks 4096 count bytes_there ≡ first_pages_of known asked many = ap (λ (s : ShelfState). first_pages_of s unit count) same
        ∙ ap (λ (u : ℕ). first_pages_of known u count) same_unit ∙ ap (λ (k : ℕ). first_pages_of known asked k) same_count in
        subst (ArePagesOf bytes_there) list (pages_are bytes_there count (sound (only_answers.honest honest)))

    pub lines_listed : (done : Unit) → (IsTrue (state after).is_honest → IfOk lines (λ l. TellsEach (first_pages_of known asked many) l.items)) → WritesCounts lines out out_after (Ok done)
        → ListsStatistics state faults unit shelf after out out_after (Ok Listed)
    lines_listed done tells wrote = record {
      ends = λ honest. text_written (first_pages_of known asked many) bytes_there (its_pages honest) out out_after lines done (tells honest) wrote;
      only = only_answers;
      unlisted = λ reason place is. absurd (cc);
      untouched = tt;
      cause = λ is honest. absurd (cc);
    }

    pub lines_not_listed : (fault : StatisticsFault) → (IsTrue (state after).is_honest → IfErr lines (RefusesRightly (IsOfSound (first_pages_of known asked many)))) → WritesCounts lines out out_after (Err fault)
        → ListsStatistics state faults unit shelf after out out_after (Err fault)
    lines_not_listed fault refused wrote = record {
      ends = tt;
      only = only_answers;
      unlisted = λ reason place is. absurd (cc);
      untouched = untouched_by out out_after lines fault wrote;
      cause = λ is honest. absurd (never_input (first_pages_of known asked many) bytes_there (its_pages honest) out out_after lines fault (refused honest) wrote (let e : fault ≡ Input = cc in e));
    }

-- ---- what is listed, behind calls that only answered

module _ {H : Type 0} (state : H → ShelfState) (count : H → ℕ) (unit : ℕ) (a b c : H) (only : OnlyAnswers (state a) (state b)) (more : count a ≤ count b) (out out_after : Option (List ℕ)) where
  ends_on : (r : Result FileStatisticsEnd StatisticsFault) → IfOk r (λ end. IsTrue (state c).is_honest → EndsStatisticsWith (content (unit_file (state b) unit)) out out_after end)
      → IfOk r (λ end. IsTrue (state c).is_honest → EndsStatisticsWith (content (unit_file (state a) unit)) out out_after end)
  ends_on (Ok end) ends = λ honest. subst (λ (file : DeviceFile). EndsStatisticsWith (content file) out out_after end) (same_file (state a) (state b) unit only) (ends honest)
  ends_on (Err fault) ends = tt

  pub lists_on : (r : Result FileStatisticsEnd StatisticsFault) → ListsStatistics state count unit b c out out_after r → ListsStatistics state count unit a c out out_after r
  lists_on r lists = record {
    ends = ends_on r lists.ends;
    only = only_then (state a) (state b) (state c) only lists.only;
    unlisted = lists.unlisted;
    untouched = lists.untouched;
    cause = λ is honest. (let rose = lists.cause is honest in omega (arith, more, rose));
  }

-- a file that was found unsound is told so
pub unsound_listed : {H : Type 0} (state : H → ShelfState) (count : H → ℕ) (unit : ℕ) (a b : H) (out : Option (List ℕ)) (reason : Reason) (place : FaultPlace)
    → (IsTrue (state b).is_honest → IsUnsoundAt place (content (unit_file (state a) unit)) reason) → OnlyAnswers (state a) (state b)
    → ListsStatistics state count unit a b out out (Ok (Unsound reason place))
unsound_listed state count unit a b out reason place right only = record {
  ends = λ honest. (right honest, refl);
  only = only;
  unlisted = λ other there is. refl;
  untouched = tt;
  cause = λ is honest. absurd (cc);
}

-- nothing is told of it for want of memory, or since a call failed
pub memory_wanting : {H : Type 0} (state : H → ShelfState) (count : H → ℕ) (unit : ℕ) (a b : H) (out : Option (List ℕ)) → OnlyAnswers (state a) (state b)
    → ListsStatistics state count unit a b out out (Err Memory)
memory_wanting state count unit a b out only = record {
  ends = tt;
  only = only;
  unlisted = λ reason place is. absurd (cc);
  untouched = λ not. refl;
  cause = λ is honest. absurd (cc);
}

pub call_failed : {H : Type 0} (state : H → ShelfState) (count : H → ℕ) (unit : ℕ) (a b : H) (out : Option (List ℕ)) → OnlyAnswers (state a) (state b)
    → IsUnitFault (count a) (count b) Device → ListsStatistics state count unit a b out out (Err Input)
call_failed state count unit a b out only (inl memory) = absurd (cc)
call_failed state count unit a b out only (inr device) = record {
  ends = tt;
  only = only;
  unlisted = λ reason place is. absurd (cc);
  untouched = λ other. refl;
  cause = λ is honest. device.1;
}

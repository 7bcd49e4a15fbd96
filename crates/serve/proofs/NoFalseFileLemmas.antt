-- In every session each name stands by its ledger.
use Rattle.std.proofs.Common.{◌≡◌, ◌≢◌, ◌⊎◌, ℕ, Bool, List, [], ◌∷◌, ◌++◌, length, Option, Some, None, inl, inr, refl, sym, ap, subst, ◌∙◌}
use Rattle.std.proofs.lemmas.Bool.{cases_eq}
use Rattle.std.proofs.lemmas.List.{get_or-set_same, get_or-set_other, length-set}
use Rattle.io_state.specs.declared.status.Status.{Status}
use Rattle.indexed_file.specs.Moments.{JoinsStretches, EndsNow}
use Rattle.indexed_file.specs.Shown.{Shown}
use Rattle.verbs.specs.declared.answer.Answer.{Answer}
use Rattle.verbs.specs.Held.{silent}
use Rattle.serve.specs.Answer.{Told, Refuses, Does, Tells}
use Rattle.serve.specs.Request.{Described, Performed, Asked, Describing, Performing, Releasing}
use Rattle.serve.specs.Reading.{request_in}
use Rattle.serve.specs.Files.{NumberedFile, FileTable, Files, file_of_number, files_at_start}
use Rattle.serve.specs.Steps.{PerformsRequest, Releases, LibraryStays, close_request}
use Rattle.serve.proofs.FilesLemmas.{none_some}
use Rattle.serve.specs.Answers.{AnswersRequest}
use Rattle.serve.specs.Ledgers.{JudgedFiles, none_judged}
use Rattle.serve.specs.NoFalseFile.{LedgersGo, LedgersStay, LedgersGoOn, ServesSafely, ClosesSafely, NoFalseFileInSession, NoFalseFileInCloses, NoFalseFileAfter, NoFalseFileInRequests}
use Rattle.serve.specs.Serving.{Exchange, Serving, ClosesAllFiles}
use Rattle.serve.proofs.ServingLemmas.{join}
use Rattle.serve.proofs.LedgerLemmas.{AllKept, within_places, none_kept, performed_goes, performed_kept, stayed, stayed_kept, let_go_stays, itself_stays, described_stays, described_kept}

module _ {S : Type 0} (shown : Shown S) (joins : JoinsStretches shown.moments) (ends : EndsNow shown.moments) (start : S) where
  -- ---- a request

  module _ (keeps_open : S → ℕ → Bool) where
    -- there is a point behind it to which the ledgers go so
    abbrev Go : Option Asked → Told → JudgedFiles S → Files S → Type 0
    Go asked told old new = (after : JudgedFiles S) × (after.files ≡ new) × LedgersGo shown start asked told old after × AllKept shown start after

    -- the library stays, and each file that is there was there
    abbrev Stayed : JudgedFiles S → Files S → Type 0
    Stayed old new = (after : JudgedFiles S) × (after.files ≡ new) × LedgersStay shown start old.names old after × AllKept shown start after

    stay : (old : JudgedFiles S) (new : Files S) → AllKept shown start old → LibraryStays shown old.files.library new.library → length new.table.places ≡ length old.files.table.places
        → ((n : ℕ) (file : NumberedFile) → file_of_number new.table n ≡ Some file → file_of_number old.files.table n ≡ Some file) → Stayed old new
    stay old new kept stays many there = (
      record { files = new; names = old.names; ledger = old.ledger },
      refl,
      stayed shown joins ends start old new kept stays,
      stayed_kept shown joins ends start old new kept stays (many ∙ kept.places) there,
    )

    same_files : (old : JudgedFiles S) (new : Files S) → AllKept shown start old → new ≡ old.files → Stayed old new
    same_files old new kept same =
        subst (λ (files : Files S). Stayed old files) (sym same)
        (stay old old.files kept (itself_stays shown joins ends start old.files.library) refl (λ n file is. is))

    same_table : (old : JudgedFiles S) (new : Files S) → AllKept shown start old → new.table ≡ old.files.table → LibraryStays shown old.files.library new.library → Stayed old new
    same_table old new kept same stays =
        stay old new kept stays (ap (λ (table : FileTable). length table.places) same)
        (λ n file is. ap (λ (table : FileTable). file_of_number table n) (sym same) ∙ is)

    released : (number : ℕ) (old : JudgedFiles S) (new : Files S) → AllKept shown start old → Releases shown keeps_open number old.files new → Stayed old new
    released number old new kept does =
        let below = within_places old.files.table.places number does.file does.was in
        stay old new kept (let_go_stays shown joins ends start old.files.library new.library does.stays)
        (ap (λ (table : FileTable). length table.places) does.table ∙ length-set old.files.table.places number None)
        (λ n file is. by n file (cases_eq n number) is)
      where
        gone : file_of_number new.table number ≡ None
        gone =
            ap (λ (table : FileTable). file_of_number table number) does.table
            ∙ get_or-set_same old.files.table.places number None None (within_places old.files.table.places number does.file does.was)

        by : (n : ℕ) (file : NumberedFile) → (n ≡ number) ⊎ (n ≢ number) → file_of_number new.table n ≡ Some file → file_of_number old.files.table n ≡ Some file
        by n file (inl same) is = absurd (none_some (sym gone ∙ ap (file_of_number new.table) (sym same) ∙ is))
        by n file (inr apart) is =
            sym (ap (λ (table : FileTable). file_of_number table n) does.table ∙ get_or-set_other old.files.table.places number n None None apart) ∙ is

    pub goes_on : (p : Performed) (old : JudgedFiles S) (new : Files S) (answer : Answer) → AllKept shown start old → PerformsRequest shown p old.files answer new
        → (after : JudgedFiles S) × (after.files ≡ new) × LedgersGoOn shown start p answer.status old after × AllKept shown start after
    goes_on p old new answer kept does =
        (_, refl, performed_goes shown joins ends start p old new answer kept does, performed_kept shown joins ends start p old new answer kept does)

    pub answered : (asked : Option Asked) (told : Told) (old : JudgedFiles S) (new : Files S) → AllKept shown start old → AnswersRequest shown keeps_open asked old.files told new → Go asked told old new
    answered None told old new kept a = same_files old new kept a.1
    answered (Some (Describing d)) Does old new kept a =
        (_, refl, described_stays shown joins ends start keeps_open d old new kept a, described_kept shown joins ends start keeps_open d old new kept a)
    answered (Some (Describing d)) (Refuses why) old new kept a = same_table old new kept a.1.table a.1.library
    answered (Some (Describing d)) (Tells status bytes) old new kept a = absurd a
    answered (Some (Performing p)) Does old new kept a = absurd a
    answered (Some (Performing p)) (Refuses why) old new kept a = same_files old new kept a.1
    answered (Some (Performing p)) (Tells status bytes) old new kept a =
        let went = goes_on p old new a.0 kept a.1 in
        subst (λ (s : Status). Go (Some (Performing p)) (Tells s bytes) old new) (sym a.2) went
    answered (Some (Releasing number)) Does old new kept a = released number old new kept a
    answered (Some (Releasing number)) (Refuses why) old new kept a = same_files old new kept a.1
    answered (Some (Releasing number)) (Tells status bytes) old new kept a = absurd a

    -- ---- a session

    serves : (exchanges : List Exchange) (old : JudgedFiles S) (new : Files S) → AllKept shown start old → Serving shown keeps_open old.files exchanges new
        → (after : JudgedFiles S) × (after.files ≡ new) × ServesSafely shown keeps_open start old exchanges after × AllKept shown start after
    serves [] old new kept same = (old, sym same, refl, kept)
    serves (e ∷ rest) old new kept (between, answers, more) =
        let one = answered (request_in e.body) e.told old between kept answers in
        let then : JudgedFiles S = one.0 in
        let others = serves rest then new one.3 (subst (λ (files : Files S). Serving shown keeps_open files rest new) (sym one.1) more) in (
          others.0,
          others.1,
          (
            then,
            record {
              answers = subst (λ (files : Files S). AnswersRequest shown keeps_open (request_in e.body) old.files e.told files) (sym one.1) answers;
              ledgers = one.2;
              now = one.3.stands;
            },
            others.2,
          ),
          others.3,
        )

    closes : (statuses : List Status) (old : JudgedFiles S) (new : Files S) → AllKept shown start old → ClosesAllFiles shown old.files statuses new
        → (after : JudgedFiles S) × (after.files ≡ new) × ClosesSafely shown start old statuses after × AllKept shown start after
    closes [] old new kept (none, same) = (old, sym same, (none, refl), kept)
    closes (status ∷ rest) old new kept (between, first, more) =
        let kept_then = performed_kept shown joins ends start (close_request first.first) old between (silent status) kept first.closed in
        let goes = performed_goes shown joins ends start (close_request first.first) old between (silent status) kept first.closed in
        let others = closes rest _ new kept_then more in (
          others.0,
          others.1,
          (_, record { closes = first; goes = goes; now = kept_then.stands }, others.2),
          others.3,
        )

    -- ---- requests one at a time

    closed_so : (judged : JudgedFiles S) → AllKept shown start judged → NoFalseFileInCloses shown start judged
    closed_so judged kept statuses end closing =
        let closed = closes statuses judged end kept closing in (closed.0, closed.1, closed.2, closed.3.stands)

    pub after : (exchanges : List Exchange) (now : Files S) → Serving shown keeps_open (files_at_start start) exchanges now → NoFalseFileAfter shown keeps_open start exchanges now
    after exchanges now serving =
        let all = serves exchanges (none_judged start) now (none_kept shown joins ends start) serving in
        record { judged = all.0; files = all.1; served = all.2; stands = all.3.stands; closes = closed_so all.0 all.3 }

    answered_of : (exchanges : List Exchange) (old new : JudgedFiles S) → ServesSafely shown keeps_open start old exchanges new → Serving shown keeps_open old.files exchanges new.files
    answered_of [] old new same = ap (λ (judged : JudgedFiles S). judged.files) same
    answered_of (e ∷ rest) old new (between, safely, more) = (between.files, safely.answers, answered_of rest between new more)

    pub behind_next : (exchanges : List Exchange) (e : Exchange) (old new : Files S) → NoFalseFileAfter shown keeps_open start exchanges old → AnswersRequest shown keeps_open (request_in e.body) old e.told new
        → NoFalseFileAfter shown keeps_open start (exchanges ++ e ∷ []) new
    behind_next exchanges e old new had answers =
        let before = subst (λ (files : Files S). Serving shown keeps_open (files_at_start start) exchanges files) had.files (answered_of exchanges (none_judged start) had.judged had.served) in
        after (exchanges ++ e ∷ []) new (join shown keeps_open exchanges (e ∷ []) (files_at_start start) old new before (new, answers, refl))

module _ {S : Type 0} (shown : Shown S) (joins : JoinsStretches shown.moments) (ends : EndsNow shown.moments) (keeps_open : S → ℕ → Bool) where
  pub no_false_file : NoFalseFileInSession shown keeps_open
  no_false_file start s result session =
      let first = serves shown joins ends start keeps_open session.served.exchanges (none_judged start) session.last (none_kept shown joins ends start) session.served.serving in
      let last : JudgedFiles S = first.0 in
      let closing : ClosesAllFiles shown last.files session.closes session.end = subst (λ (files : Files S). ClosesAllFiles shown files session.closes session.end) (sym first.1) session.closed in
      let closed = closes shown joins ends start keeps_open session.closes last session.end first.3 closing in (
        last,
        closed.0,
        first.1,
        closed.1,
        record { serving = first.2; now = first.3.stands; closed = closed.2; at_end = closed.3.stands },
      )

  pub in_requests : NoFalseFileInRequests shown keeps_open
  in_requests = record {
    first = λ start. after shown joins ends start keeps_open [] (files_at_start start) refl;
    next = λ start. behind_next shown joins ends start keeps_open;
  }

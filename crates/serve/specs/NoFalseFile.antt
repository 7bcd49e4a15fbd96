-- No false file after a crash of a session: what is so of the run of a deck, with requests in the
-- place of statements. One library has all files, from the first request to the last, through
-- descriptions and releases. At each moment, each image of a name stands for what the last CLOSE of
-- a change that answered 00 left, or for that of a CLOSE in progress or one that failed since, or is
-- refused; before the first such CLOSE it may also be as in an image at the start. All of this is
-- ours.
use Rattle.std.specs.Prelude.{◌≡◌, ℕ, Bool, List, [], ◌∷◌, ◌++◌, bytes_eq, Option, Some, None, Result}
use Rattle.std.specs.Prelude.{if◌then◌else◌}
use Rattle.io_state.specs.declared.status.Status.{Status}
use Rattle.indexed_file.specs.Shown.{Shown}
use Rattle.indexed_file.specs.Images.{Trace, untouched}
use Rattle.verbs.specs.Performed.{state_in}
use Rattle.verbs.specs.Traces.{trace_of}
use Rattle.deck_runner.specs.NoFalseFile.{Ledger, during, behind}
use Rattle.serve.specs.Answer.{Told, Refuses, Does, Tells}
use Rattle.serve.specs.Request.{Described, Performed, Asked, Describing, Performing, Releasing}
use Rattle.serve.specs.Reading.{request_in}
use Rattle.serve.specs.Files.{NumberedFile, Files, file_of_number, files_at_start, memory_of}
use Rattle.serve.specs.Steps.{with_bytes, ClosesFirst, close_request}
use Rattle.serve.specs.Answers.{AnswersRequest}
use Rattle.serve.specs.Ledgers.{JudgedFiles, none_judged, AllStand, StandsNow}
use Rattle.serve.specs.Serving.{Exchange, Streams, ClosesAllFiles, Served}
use Rattle.serve.specs.declared.fault.ServeFault.{ServeFault}

-- ---- a request

-- the ledgers stay in a stretch of time in which no image changes, and by them each name stands; these
-- names are described behind it
pub record LedgersStay {S : Type 0} (shown : Shown S) (start : S) (names : List (List ℕ))
    (old new : JudgedFiles S) : Type 0 where
  pub names_are : new.names ≡ names
  pub ledger : new.ledger ≡ old.ledger
  pub stands : AllStand shown start names old.ledger old.files.library new.files.library

-- what a statement with this status may leave of any name, by the file before it
abbrev pub trace_for_file : {S : Type 0} → Shown S → Performed → S → NumberedFile → Status → List ℕ → Trace
trace_for_file shown p library file status name =
    if bytes_eq file.name name then trace_of p.statement
    (state_in shown file.unit (with_bytes p.bytes (memory_of library file))) status else untouched

-- the ledgers during a statement that may leave this of each name, and behind it
abbrev pub ledgers_during : (List ℕ → Trace) → (List ℕ → Ledger) → List ℕ → Ledger
ledgers_during trace ledger name = during (trace name) (ledger name)

abbrev pub ledgers_behind : (List ℕ → Trace) → (List ℕ → Ledger) → List ℕ → Ledger
ledgers_behind trace ledger name = behind (trace name) (ledger name)

-- a file has performed a statement with this status: each name stands by its ledger meanwhile, and
-- the ledgers go on as the statement says
pub record LedgersGoOn {S : Type 0} (shown : Shown S) (start : S) (p : Performed) (status : Status)
    (old new : JudgedFiles S) : Type 0 where
  pub before : NumberedFile
  pub was : file_of_number old.files.table p.file ≡ Some before
  pub stands : AllStand shown start old.names
      (ledgers_during (trace_for_file shown p old.files.library before status) old.ledger)
      old.files.library new.files.library
  pub names_are : new.names ≡ old.names
  pub ledger : new.ledger ≡ ledgers_behind (trace_for_file shown p old.files.library before status) old.ledger

-- how the ledgers go in a request that is told this. A description adds its name to those described
abbrev pub LedgersGo : {S : Type 0} → Shown S → (start : S) → Option Asked → Told → (old new : JudgedFiles S)
    → Type 0
LedgersGo shown start None told old new = LedgersStay shown start old.names old new
LedgersGo shown start (Some (Describing d)) Does old new = LedgersStay shown start (d.name ∷ old.names) old new
LedgersGo shown start (Some (Describing d)) (Refuses why) old new = LedgersStay shown start old.names old new
LedgersGo shown start (Some (Describing d)) (Tells status bytes) old new = ⊥
LedgersGo shown start (Some (Performing p)) Does old new = ⊥
LedgersGo shown start (Some (Performing p)) (Refuses why) old new = LedgersStay shown start old.names old new
LedgersGo shown start (Some (Performing p)) (Tells status bytes) old new =
    LedgersGoOn shown start p status old new
LedgersGo shown start (Some (Releasing number)) Does old new = LedgersStay shown start old.names old new
LedgersGo shown start (Some (Releasing number)) (Refuses why) old new = LedgersStay shown start old.names old new
LedgersGo shown start (Some (Releasing number)) (Tells status bytes) old new = ⊥

-- a request was answered, the ledgers went on, and behind it each name stands by its ledger
pub record AnswersSafely {S : Type 0} (shown : Shown S) (keeps_open : S → ℕ → Bool) (start : S) (e : Exchange)
    (old new : JudgedFiles S) : Type 0 where
  pub answers : AnswersRequest shown keeps_open (request_in e.body) old.files e.told new.files
  pub ledgers : LedgersGo shown start (request_in e.body) e.told old new
  pub now : StandsNow shown start new

-- requests were answered so, one after another
abbrev pub ServesSafely : {S : Type 0} → Shown S → (keeps_open : S → ℕ → Bool) → (start : S) → JudgedFiles S
    → List Exchange → JudgedFiles S → Type 0
ServesSafely shown keeps_open start old [] new = new ≡ old
ServesSafely {S} shown keeps_open start old (e ∷ rest) new =
    (between : JudgedFiles S) × AnswersSafely shown keeps_open start e old between
    × ServesSafely shown keeps_open start between rest new

-- ---- the end

-- the open file that was opened first was closed, and the ledgers went on
pub record ClosesOneSafely {S : Type 0} (shown : Shown S) (start : S) (old : JudgedFiles S) (status : Status)
    (new : JudgedFiles S) : Type 0 where
  pub closes : ClosesFirst shown old.files status new.files
  pub goes : LedgersGoOn shown start (close_request closes.first) status old new
  pub now : StandsNow shown start new

-- the open files were closed so, until none was open
abbrev pub ClosesSafely : {S : Type 0} → Shown S → (start : S) → JudgedFiles S → List Status → JudgedFiles S
    → Type 0
ClosesSafely shown start old [] new = (old.files.table.opened ≡ []) × (new ≡ old)
ClosesSafely {S} shown start old (status ∷ rest) new =
    (between : JudgedFiles S) × ClosesOneSafely shown start old status between
    × ClosesSafely shown start between rest new

-- ---- the law

-- such requests were answered from the first one on, and then the open files were closed so
pub record ServesToEndSafely {S : Type 0} (shown : Shown S) (keeps_open : S → ℕ → Bool) (start : S)
    (exchanges : List Exchange) (last : JudgedFiles S) (closes : List Status) (end : JudgedFiles S) : Type
    0 where
  pub serving : ServesSafely shown keeps_open start (none_judged start) exchanges last
  pub now : StandsNow shown start last
  pub closed : ClosesSafely shown start last closes end
  pub at_end : StandsNow shown start end

-- in every session, however it ended, each name stands by its ledger: during each request, at each
-- point between two, during each close, and at the end
abbrev pub NoFalseFileInSession : {S : Type 0} → Shown S → (keeps_open : S → ℕ → Bool) → Type 0
NoFalseFileInSession {S} shown keeps_open =
    (start : S) → (s : Streams) → (result : Result Unit ServeFault)
    → (session : Served shown keeps_open start s result)
    → (last : JudgedFiles S) × (end : JudgedFiles S) × (last.files ≡ session.last) × (end.files ≡ session.end)
    × ServesToEndSafely shown keeps_open start session.served.exchanges last session.closes end

-- ---- the law for requests that come one at a time, by whatever way

-- however the open files are closed from here on, each name stands by its ledger during each close,
-- and behind the last one
abbrev pub NoFalseFileInCloses : {S : Type 0} → Shown S → (start : S) → JudgedFiles S → Type 0
NoFalseFileInCloses {S} shown start judged =
    (statuses : List Status) → (end : Files S) → ClosesAllFiles shown judged.files statuses end
    → (closed : JudgedFiles S) × (closed.files ≡ end) × ClosesSafely shown start judged statuses closed
    × StandsNow shown start closed

-- a session over the library that it began with, after these requests, from the first one on: each
-- name has stood by its ledger during each of them and between them, stands by it now, and will
-- while the open files are closed
pub record NoFalseFileAfter {S : Type 0} (shown : Shown S) (keeps_open : S → ℕ → Bool) (start : S)
    (exchanges : List Exchange) (now : Files S) : Type 0 where
  pub judged : JudgedFiles S
  pub files : judged.files ≡ now
  pub served : ServesSafely shown keeps_open start (none_judged start) exchanges judged
  pub stands : StandsNow shown start judged
  pub closes : NoFalseFileInCloses shown start judged

-- it is so before the first request, and it stays so behind each request that is answered
pub record NoFalseFileInRequests {S : Type 0} (shown : Shown S) (keeps_open : S → ℕ → Bool) : Type 0 where
  pub first : (start : S) → NoFalseFileAfter shown keeps_open start [] (files_at_start start)
  pub next : (start : S) → (exchanges : List Exchange) → (e : Exchange) → (old new : Files S)
      → NoFalseFileAfter shown keeps_open start exchanges old
      → AnswersRequest shown keeps_open (request_in e.body) old e.told new
      → NoFalseFileAfter shown keeps_open start (exchanges ++ e ∷ []) new

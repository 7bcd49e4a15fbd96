-- An exact session: it answers what the definitions give for its requests, however these came, and
-- stands for what they leave. All of this is ours.
use Rattle.std.specs.Prelude.{◌≡◌, ℕ, Bool, true, false, not, List, [], ◌∷◌, ◌++◌, Option, Some, None, Result}
use Rattle.std.specs.Prelude.{IsTrue}
use Rattle.io_state.specs.declared.status.Status.{Status}
use Rattle.indexed_file.specs.Shown.{Shown}
use Rattle.indexed_file.specs.World.{World, named_in}
use Rattle.serve.specs.Answer.{Told, Refuses, Tells}
use Rattle.serve.specs.Reading.{request_in}
use Rattle.serve.specs.Request.{Asked, Describing, Performing, Releasing}
use Rattle.serve.specs.declared.request_refusal.RequestRefusal.TheVariants as refusal
use Rattle.verbs.specs.Faults.{is_unclean}
use Rattle.verbs.specs.Held.{state_of}
use Rattle.serve.specs.Files.{NumberedFile, Files, file_of_number, files_at_start}
use Rattle.serve.specs.Steps.{close_request}
use Rattle.serve.specs.Answers.{AnswersRequest}
use Rattle.serve.specs.ExactFiles.{ExactFile, ExactFiles, exact_at_start, ServesExactly, ClosesExactly}
use Rattle.serve.specs.ExactFiles.{EndsExactly}
use Rattle.serve.specs.Serving.{Exchange, Serving, ClosesAllFiles, Streams, Served, failed_among}
use Rattle.serve.specs.declared.fault.ServeFault.{ServeFault}

-- ---- what a session stands for

-- a described file, as its library shows it
abbrev pub file_in_session : World → NumberedFile → ExactFile
file_in_session world file = record {
  name = file.name;
  state = state_of file.held world file.unit file.area;
}

abbrev pub place_in_session : World → Option NumberedFile → Option ExactFile
place_in_session world None = None
place_in_session world (Some file) = Some (file_in_session world file)

-- the files that a session stands for
abbrev pub files_in_session : {S : Type 0} → Shown S → Files S → ExactFiles
files_in_session shown session = record {
  file = λ number. place_in_session (shown.world session.library) (file_of_number session.table number);
  opened = session.table.opened;
  named = named_in (shown.world session.library);
}

-- ---- without a fault

-- a request was answered without a fault: no verb by 24, 30, 90 or 92, and only OPEN by 91; and no
-- description was refused for want of memory
abbrev pub is_clean_answer : Option Asked → Told → Bool
is_clean_answer None told = true
is_clean_answer (Some (Describing d)) (Refuses refusal.Memory) = false
is_clean_answer (Some (Describing d)) _ = true
is_clean_answer (Some (Performing p)) (Tells status bytes) = not (is_unclean p.statement status)
is_clean_answer (Some (Performing p)) _ = true
is_clean_answer (Some (Releasing number)) told = true

abbrev pub AreCleanAnswers : List Exchange → Type 0
AreCleanAnswers [] = Unit {0}
AreCleanAnswers (e ∷ rest) = (is_clean_answer (request_in e.body) e.told ≡ true) × AreCleanAnswers rest

abbrev pub AreCleanCloses : List Status → Type 0
AreCleanCloses [] = Unit {0}
AreCleanCloses (status ∷ rest) = (not (is_unclean (close_request 0).statement status) ≡ true) × AreCleanCloses rest

-- this is so of the name that a request describes, if it describes one
abbrev pub IsSoOfDescribed : (List ℕ → Type 0) → Option Asked → Type 0
IsSoOfDescribed IsSo None = Unit {0}
IsSoOfDescribed IsSo (Some (Describing d)) = IsSo d.name
IsSoOfDescribed IsSo (Some (Performing p)) = Unit {0}
IsSoOfDescribed IsSo (Some (Releasing number)) = Unit {0}

-- and of each name that requests describe
abbrev pub IsSoOfAllDescribed : (List ℕ → Type 0) → List Exchange → Type 0
IsSoOfAllDescribed IsSo [] = Unit {0}
IsSoOfAllDescribed IsSo (e ∷ rest) = IsSoOfDescribed IsSo (request_in e.body) × IsSoOfAllDescribed IsSo rest

-- no answer told of a fault; and by now the library has not lied, and what it showed at the start of
-- the described names was true
pub record AreWithoutFault {S : Type 0} (shown : Shown S) (start : S) (exchanges : List Exchange) (now : S) : Type
    0 where
  pub honest : IsTrue (shown.is_honest now)
  pub truly : IsSoOfAllDescribed (shown.IsShownTruly start) exchanges
  pub clean : AreCleanAnswers exchanges

-- ---- requests, however they came

-- however the open files are closed from here on, without a fault: each close is what the definitions
-- give, and so is what it leaves
abbrev pub ExactInCloses : {S : Type 0} → Shown S → (start : S) → List Exchange → Files S → Type 0
ExactInCloses {S} shown start exchanges now =
    (statuses : List Status) → (end : Files S) → ClosesAllFiles shown now statuses end
    → AreWithoutFault shown start exchanges end.library → AreCleanCloses statuses
    → ClosesExactly (files_in_session shown now) statuses (files_in_session shown end)

-- a session over the library that it began with, which had no unit then, after these requests, from
-- the first one on. Without a fault, each was answered what the definitions give for the requests in
-- order, from what each name stood for at the start, through descriptions and releases; the session
-- stands for the files that they leave; and so it will be while the open files are closed
pub record ExactAfter {S : Type 0} (shown : Shown S) (keeps_open : S → ℕ → Bool) (start : S)
    (exchanges : List Exchange) (now : Files S) : Type 0 where
  pub no_unit : (shown.world start).units ≡ []
  pub answered : Serving shown keeps_open (files_at_start start) exchanges now
  pub exact : AreWithoutFault shown start exchanges now.library
      → ServesExactly (exact_at_start (named_in (shown.world start))) exchanges (files_in_session shown now)
  pub closes : ExactInCloses shown start exchanges now

-- ---- the laws

-- it is so before the first request, and it stays so behind each request that is answered; and closes
-- of which none failed are without a fault
pub record ExactInRequests {S : Type 0} (shown : Shown S) (keeps_open : S → ℕ → Bool) : Type 0 where
  pub first : (start : S) → (shown.world start).units ≡ []
      → ExactAfter shown keeps_open start [] (files_at_start start)
  pub next : (start : S) → (exchanges : List Exchange) → (e : Exchange) → (old new : Files S)
      → ExactAfter shown keeps_open start exchanges old
      → AnswersRequest shown keeps_open (request_in e.body) old e.told new
      → ExactAfter shown keeps_open start (exchanges ++ e ∷ []) new
  pub none_failed : (closes : List Status) → failed_among closes ≡ 0 → AreCleanCloses closes

-- in every session over a library that had no unit at first: it is so of its requests; and where
-- neither they nor the closes at its end told of a fault, all of them are what the definitions give,
-- and what they leave is what the session stands for at its end
abbrev pub ExactSession : {S : Type 0} → Shown S → (keeps_open : S → ℕ → Bool) → Type 0
ExactSession {S} shown keeps_open =
    (start : S) → (s : Streams) → (result : Result Unit ServeFault)
    → (session : Served shown keeps_open start s result) → (shown.world start).units ≡ []
    → ExactAfter shown keeps_open start session.served.exchanges session.last
    × (AreWithoutFault shown start session.served.exchanges session.end.library
    → AreCleanCloses session.closes
    → EndsExactly (named_in (shown.world start)) session.served.exchanges session.closes
    (files_in_session shown session.end))

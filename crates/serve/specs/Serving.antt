-- The answering of the requests of an input. All of this is ours.
use Rattle.std.specs.Prelude.{◌≡◌, ◌≢◌, ◌⊎◌, ℕ, ◌<◌, ◌≤◌, ◌+◌, ◌-◌, ◌^◌, Bool, true, false, All, length, List, []}
use Rattle.std.specs.Prelude.{◌∷◌, ◌++◌, flat_map, Option, Some, None, if◌then◌else◌, Result, Ok, Err}
use Rattle.std.specs.Io.KnownBytes.{Appends}
use Rattle.byteorder.specs.Endian.{big_bytes}
use Rattle.io_state.specs.declared.status.Status.{Status}
use Rattle.io_state.specs.declared.status.Status.TheVariants.{Successful}
use Rattle.indexed_file.specs.Shown.{Shown}
use Rattle.serve.specs.Answer.{Told, Refuses, framed}
use Rattle.serve.specs.Reading.{request_in}
use Rattle.serve.specs.declared.request_refusal.RequestRefusal.TheVariants as refusal
use Rattle.serve.specs.Files.{Files, files_at_start}
use Rattle.serve.specs.Steps.{ClosesFirst}
use Rattle.streams.specs.Source.{Source, source_of, GivesBytes, HasEnded, HasFailed}
use Rattle.streams.specs.declared.standard_input.StandardInput.{StandardInput}
use Rattle.serve.specs.Input.{IsCutFrame}
use Rattle.serve.specs.Answers.{AnswersRequest, answer_frame}
use Rattle.serve.specs.Reads.{AsksOnlyToRead}
use Rattle.serve.specs.declared.end.SessionEnd.{SessionEnd}
use Rattle.serve.specs.declared.fault.ServeFault.{ServeFault}
use Rattle.serve.specs.declared.fault.ServeFault.TheVariants.{Input, Output, Memory}

-- the body of a request's frame, and what was told
pub record Exchange : Type 0 where
  pub body : List ℕ
  pub told : Told

-- the frames of the requests, and those of their answers
abbrev pub requests : List Exchange → List ℕ
requests exchanges = flat_map (λ e. framed e.body) exchanges

abbrev pub answer_bytes : List Exchange → List ℕ
answer_bytes exchanges = flat_map (λ e. answer_frame e.told) exchanges

-- requests were answered one after another, each in what those before it left
abbrev pub Serving : {S : Type 0} → Shown S → (keeps_open : S → ℕ → Bool) → Files S → List Exchange → Files S
    → Type 0
Serving shown keeps_open old [] new = new ≡ old
Serving {S} shown keeps_open old (e ∷ rest) new =
    (between : Files S) × AnswersRequest shown keeps_open (request_in e.body) old e.told between
    × Serving shown keeps_open between rest new

-- the open files were closed, the one that was opened first at first, until none was open
abbrev pub ClosesAllFiles : {S : Type 0} → Shown S → Files S → List Status → Files S → Type 0
ClosesAllFiles shown old [] new = (old.table.opened ≡ []) × (new ≡ old)
ClosesAllFiles {S} shown old (status ∷ rest) new = (between : Files S) × ClosesFirst shown old status between
    × ClosesAllFiles shown between rest new

-- the input ended, in a frame or before one
pub record EndsInput (input_after : Source) (exchanges : List Exchange) (read written : List ℕ) : Type 0 where
  pub cut : List ℕ
  pub is_cut : IsCutFrame cut
  pub read_is : read ≡ requests exchanges ++ cut
  pub ended : HasEnded input_after
  pub written_is : written ≡ answer_bytes exchanges

-- the answer to a length past the limit
abbrev pub too_long : List ℕ
too_long = answer_frame (Refuses refusal.TooLong)

-- a length past the limit was read and refused, and nothing behind it was read
pub record EndsTooLong (exchanges : List Exchange) (read written : List ℕ) : Type 0 where
  pub size : ℕ
  pub past : 8192 < size
  pub read_is : read ≡ requests exchanges ++ big_bytes 2 size
  pub written_is : written ≡ answer_bytes exchanges ++ too_long

-- a read failed, in a frame or before one; or as many requests were answered as a session has at most
pub record FailsToRead (input_after : Source) (exchanges : List Exchange)
    (read written : List ℕ) : Type 0 where
  pub cut : List ℕ
  pub is_cut : IsCutFrame cut
  pub read_is : read ≡ requests exchanges ++ cut
  pub why : HasFailed input_after ⊎ (2 ^ 64 - 1 ≤ length exchanges)
  pub written_is : written ≡ answer_bytes exchanges

-- the writer refused the last answer, of which it has a front, or all where it did not hand it on
pub record FailsToAnswer (exchanges : List Exchange) (read written : List ℕ) : Type 0 where
  pub before : List Exchange
  pub last : Exchange
  pub are : exchanges ≡ before ++ last ∷ []
  pub front : List ℕ
  pub rest : List ℕ
  pub frame : answer_frame last.told ≡ front ++ rest
  pub read_is : read ≡ requests exchanges
  pub written_is : written ≡ answer_bytes before ++ front

-- behind the requests that were performed: less than a frame, a length past the limit, or a frame
-- whose request was not performed
pub data IsUnanswered : List ℕ → Type 0 where
  Less : (bytes : List ℕ) → IsCutFrame bytes → IsUnanswered bytes
  PastLimit : (size : ℕ) → 8192 < size → IsUnanswered (big_bytes 2 size)
  NotPerformed : (body : List ℕ) → IsUnanswered (framed body)

-- the writer refused one of the answers that were held, of which it has a front, or all where it
-- did not hand it on: its request and those behind it only read
pub record FailsToHandOver (exchanges : List Exchange) (read written : List ℕ) : Type 0 where
  pub before : List Exchange
  pub failed : Exchange
  pub behind : List Exchange
  pub are : exchanges ≡ before ++ failed ∷ behind
  pub reads : All (λ e. AsksOnlyToRead e.body) (failed ∷ behind)
  pub front : List ℕ
  pub rest : List ℕ
  pub frame : answer_frame failed.told ≡ front ++ rest
  pub more : List ℕ
  pub unanswered : IsUnanswered more
  pub read_is : read ≡ requests exchanges ++ more
  pub written_is : written ≡ answer_bytes before ++ front

-- so with the refusal of a length past the limit
pub record FailsToRefuse (exchanges : List Exchange) (read written : List ℕ) : Type 0 where
  pub size : ℕ
  pub past : 8192 < size
  pub front : List ℕ
  pub rest : List ℕ
  pub frame : too_long ≡ front ++ rest
  pub read_is : read ≡ requests exchanges ++ big_bytes 2 size
  pub written_is : written ≡ answer_bytes exchanges ++ front

-- how the requests ended
abbrev pub EndsSession : Source → List Exchange → (read written : List ℕ) → Result Unit ServeFault → Type 0
EndsSession input_after exchanges read written (Ok _) =
    EndsInput input_after exchanges read written ⊎ EndsTooLong exchanges read written
EndsSession input_after exchanges read written (Err Input) = FailsToRead input_after exchanges read written
EndsSession input_after exchanges read written (Err Output) =
    FailsToAnswer exchanges read written ⊎ FailsToHandOver exchanges read written
    ⊎ FailsToRefuse exchanges read written
EndsSession input_after exchanges read written (Err Memory) = ⊥

-- what an input has left and gave, and what an output has, before and after
pub record Streams : Type 0 where
  pub input : Source
  pub input_after : Source
  pub output : Option (List ℕ)
  pub output_after : Option (List ℕ)

abbrev pub streams : (input input_after : Source) → (output output_after : Option (List ℕ)) → Streams
streams input input_after output output_after = record {
  input = input;
  input_after = input_after;
  output = output;
  output_after = output_after;
}

-- the requests of the input were answered to its end, or to a fault
pub record Serves {S : Type 0} (shown : Shown S) (keeps_open : S → ℕ → Bool) (s : Streams) (old new : Files S)
    (result : Result Unit ServeFault) : Type 0 where
  pub exchanges : List Exchange
  pub serving : Serving shown keeps_open old exchanges new
  pub read : List ℕ
  pub written : List ℕ
  pub gives : GivesBytes s.input s.input_after read
  pub appends : Appends s.output s.output_after written
  pub ends : EndsSession s.input_after exchanges read written result

-- a whole session over this library: its requests were answered, from the first one, when no file
-- was described; and then the files that were still open were closed
pub record Served {S : Type 0} (shown : Shown S) (keeps_open : S → ℕ → Bool) (start : S) (s : Streams)
    (result : Result Unit ServeFault) : Type 0 where
  pub last : Files S
  pub served : Serves shown keeps_open s (files_at_start start) last result
  pub closes : List Status
  pub end : Files S
  pub closed : ClosesAllFiles shown last closes end

-- a close that was answered another status than 00
abbrev pub is_failed_close : Status → Bool
is_failed_close Successful = false
is_failed_close _ = true

-- how many closes of these failed
abbrev pub failed_of : Option Status → ℕ
failed_of None = 0
failed_of (Some status) = if is_failed_close status then 1 else 0

abbrev pub failed_among : List Status → ℕ
failed_among [] = 0
failed_among (status ∷ statuses) = failed_of (Some status) + failed_among statuses

-- a whole session was served so: its library is given back, and it is told how many of the closes
-- at its end failed
pub record IsServedToEnd {S : Type 0} (shown : Shown S) (keeps_open : S → ℕ → Bool) (start : S) (s : Streams)
    (end : SessionEnd S) : Type 0 where
  pub session : Served shown keeps_open start s end.requests
  pub library : end.library ≡ session.end.library
  pub unclosed : end.unclosed ≡ failed_among session.closes

-- the same of the reader and the writer themselves
abbrev pub ServesInput : {S R W : Type 0} → Shown S → (keeps_open : S → ℕ → Bool)
    → (remaining : R → Option (List ℕ)) → (contents : W → Option (List ℕ))
    → (input input_after : StandardInput R) → (out out_after : W) → (old new : Files S)
    → Result Unit ServeFault → Type 0
ServesInput shown keeps_open remaining contents input input_after out out_after old new result =
    Serves shown keeps_open (streams (source_of remaining input) (source_of remaining input_after)
    (contents out) (contents out_after)) old new result

-- a whole session over them, unless it was refused for want of memory
abbrev pub ServesAll : {S R W : Type 0} → Shown S → (keeps_open : S → ℕ → Bool)
    → (remaining : R → Option (List ℕ)) → (contents : W → Option (List ℕ))
    → (input input_after : StandardInput R) → (out out_after : W) → (start : S) → SessionEnd S → Type 0
ServesAll shown keeps_open remaining contents input input_after out out_after start end =
    end.requests ≢ Err Memory
    → IsServedToEnd shown keeps_open start (streams (source_of remaining input) (source_of remaining input_after)
    (contents out) (contents out_after)) end

-- the open files were closed, and so many of the closes failed
pub record ClosesAndCounts {S : Type 0} (shown : Shown S) (old new : Files S) (failed : ℕ) : Type 0 where
  pub statuses : List Status
  pub closed : ClosesAllFiles shown old statuses new
  pub failed_are : failed ≡ failed_among statuses

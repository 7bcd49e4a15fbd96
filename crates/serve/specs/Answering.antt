-- The answering of one request, and of the end, where answers are held. All of this is ours.
use Rattle.std.specs.Prelude.{◌≡◌, Bool, ◌⊎◌, ℕ, List, ◌++◌, Option, Result, Ok, Err, OnOk, OnErr}
use Rattle.std.specs.Io.KnownBytes.{Appends}
use Rattle.indexed_file.specs.Shown.{Shown}
use Rattle.serve.specs.Answer.{Told}
use Rattle.serve.specs.Reading.{request_in}
use Rattle.serve.specs.Files.{Files}
use Rattle.serve.specs.Answers.{AnswersRequest, answer_frame}
use Rattle.serve.specs.Reads.{AsksOnlyToRead}
use Rattle.streams.specs.Output.{AddsText}
use Rattle.streams.specs.declared.output.Refused.{Refused}
use Rattle.serve.specs.HeldAnswers.{HandsAllOver, RefusesHeld, RefusesNext}
use Rattle.serve.specs.Serving.{too_long}
use Rattle.serve.specs.declared.fault.ServeFault.{ServeFault}
use Rattle.serve.specs.declared.fault.ServeFault.TheVariants.{Input, Output, Memory}

-- what a writer has, if that is known, and what is held for it, before and after
pub record Outgoing : Type 0 where
  pub written : Option (List ℕ)
  pub written_after : Option (List ℕ)
  pub held : List ℕ
  pub held_after : List ℕ

abbrev pub outgoing : (written written_after : Option (List ℕ)) → (held held_after : List ℕ) → Outgoing
outgoing written written_after held held_after =
    record { written = written; written_after = written_after; held = held; held_after = held_after }

-- a request was answered, so that this is so of what was told
abbrev pub AnswersAs : {S : Type 0} → Shown S → (keeps_open : S → ℕ → Bool) → (body : List ℕ) → (Told → Type 0)
    → (old new : Files S) → Type 0
AnswersAs shown keeps_open body IsSo old new = (told : Told)
    × AnswersRequest shown keeps_open (request_in body) old told new × IsSo told

-- the answer is held, if the request only reads; or the writer took it behind all that was held
abbrev pub SendsAnswer : (body : List ℕ) → Outgoing → Told → Type 0
SendsAnswer body o told =
    (AsksOnlyToRead body × AddsText o.written o.written_after o.held o.held_after (answer_frame told))
    ⊎ HandsAllOver o.written o.written_after (o.held ++ answer_frame told) o.held_after

-- the writer refused what was held, behind a request that only reads; or it refused the answer
abbrev pub AnswerStays : (body : List ℕ) → Outgoing → Told → Type 0
AnswerStays body o told =
    (AsksOnlyToRead body × RefusesHeld o.written o.written_after o.held)
    ⊎ RefusesNext o.written o.written_after o.held (answer_frame told)

-- the writer refused what was held, and the request was not performed; or it was, and then the writer refused
abbrev pub FailsOne : {S : Type 0} → Shown S → (keeps_open : S → ℕ → Bool) → (body : List ℕ) → Outgoing
    → (old new : Files S) → Type 0
FailsOne shown keeps_open body o old new =
    (RefusesHeld o.written o.written_after o.held × (new ≡ old))
    ⊎ AnswersAs shown keeps_open body (AnswerStays body o) old new

-- a request that only reads was answered, and its answer is held; or the writer refused what was held
pub record AnswersRead {S W : Type 0} (shown : Shown S) (keeps_open : S → ℕ → Bool)
    (contents : W → Option (List ℕ)) (body : List ℕ) (old new : Files S) (held held_after : List ℕ)
    (out out_after : W) (result : Result (Unit {0}) Refused) : Type 0 where
  pub answered : OnOk result (AnswersAs shown keeps_open body
      (λ told. AddsText (contents out) (contents out_after) held held_after (answer_frame told)) old new)
  pub refused : OnErr result (AnswersAs shown keeps_open body
      (λ told. RefusesHeld (contents out) (contents out_after) held) old new)

-- another one was answered, and the writer took its answer behind all that was held; or it refused
-- what was held, and the request was not performed; or it refused the answer
pub record AnswersOther {S W : Type 0} (shown : Shown S) (keeps_open : S → ℕ → Bool)
    (contents : W → Option (List ℕ)) (body : List ℕ) (old new : Files S) (held held_after : List ℕ)
    (out out_after : W) (result : Result (Unit {0}) Refused) : Type 0 where
  pub answered : OnOk result (AnswersAs shown keeps_open body
      (λ told. HandsAllOver (contents out) (contents out_after)
      (held ++ answer_frame told) held_after) old new)
  pub refused : OnErr result ((RefusesHeld (contents out) (contents out_after) held × (new ≡ old))
      ⊎ AnswersAs shown keeps_open body
      (λ told. RefusesNext (contents out) (contents out_after) held (answer_frame told)) old new)

-- any request was answered so, or failed so
pub record AnswersOne {S W : Type 0} (shown : Shown S) (keeps_open : S → ℕ → Bool)
    (contents : W → Option (List ℕ)) (body : List ℕ) (old new : Files S) (held held_after : List ℕ)
    (out out_after : W) (result : Result (Unit {0}) Refused) : Type 0 where
  pub answered : OnOk result (AnswersAs shown keeps_open body
      (SendsAnswer body (outgoing (contents out) (contents out_after) held held_after)) old new)
  pub refused : OnErr result (FailsOne shown keeps_open body
      (outgoing (contents out) (contents out_after) held held_after) old new)

-- where the requests end, the writer took all that was held, or refused it
abbrev pub Finishes : Result Unit ServeFault → Outgoing → Result Unit ServeFault → Type 0
Finishes end o result =
    ((result ≡ end) × HandsAllOver o.written o.written_after o.held o.held_after)
    ⊎ ((result ≡ Err Output) × RefusesHeld o.written o.written_after o.held)

-- the writer took the refusal of a length past the limit behind all that was held, or refused one of the two
abbrev pub RefusesLength : (written written_after : Option (List ℕ)) → (held : List ℕ)
    → Result Unit ServeFault → Type 0
RefusesLength written written_after held (Ok _) = Appends written written_after (held ++ too_long)
RefusesLength written written_after held (Err Input) = ⊥
RefusesLength written written_after held (Err Output) =
    RefusesHeld written written_after held ⊎ RefusesNext written written_after held too_long
RefusesLength written written_after held (Err Memory) = ⊥

-- What a request is answered, and what it changes. All of this is ours.
use Rattle.std.specs.Prelude.{◌≡◌, ℕ, Bool, List, Option, Some, None}
use Rattle.indexed_file.specs.Shown.{Shown}
use Rattle.verbs.specs.declared.answer.Answer.{Answer}
use Rattle.serve.specs.Answer.{Told, Refuses, Does, Tells, answer_body, framed}
use Rattle.serve.specs.Reading.{request_in}
use Rattle.serve.specs.Request.{Described, Performed, Asked, Describing, Performing, Releasing}
use Rattle.serve.specs.Request.{described_of}
use Rattle.serve.specs.declared.file_description.FileDescription.{FileDescription}
use Rattle.serve.specs.declared.request_refusal.RequestRefusal.TheVariants as refusal
use Rattle.serve.specs.Files.{FileTable, Files, file_of_number}
use Rattle.serve.specs.declared.answering.Outcome.{Outcome}
use Rattle.serve.specs.declared.answering.Outcome.TheVariants as outcome
use Rattle.serve.specs.Steps.{Describes, RefusesDescription, StaysRefused, PerformsRequest}
use Rattle.serve.specs.Steps.{refusal_of_verb, record_by}
use Rattle.serve.specs.Steps.{Releases, refusal_of_release}

-- a file is described, as a unit of the library; or that is refused, and nothing is changed
abbrev pub AnswersDescription : {S : Type 0} → Shown S → (keeps_open : S → ℕ → Bool) → Described → Files S → Told
    → Files S → Type 0
AnswersDescription shown keeps_open d old Does new = Describes shown keeps_open d old new
AnswersDescription shown keeps_open d old (Refuses why) new =
    RefusesDescription old.table d why × StaysRefused shown why old new
AnswersDescription shown keeps_open d old (Tells status bytes) new = ⊥

-- a verb is performed, and its status told, with the record that it delivered; or it is refused,
-- and nothing is changed
abbrev pub AnswersVerb : {S : Type 0} → Shown S → Performed → Files S → Told → Files S → Type 0
AnswersVerb shown p old Does new = ⊥
AnswersVerb shown p old (Refuses why) new = (refusal_of_verb old.table p ≡ Some why) × (new ≡ old)
AnswersVerb shown p old (Tells status bytes) new =
    (answer : Answer) × PerformsRequest shown p old answer new × (status ≡ answer.status)
    × (bytes ≡ record_by (file_of_number new.table p.file) answer.length)
    × (refusal_of_verb old.table p ≡ None)

-- the number is free again, and the library has let the file go; or that is refused, and nothing is
-- changed
abbrev pub AnswersRelease : {S : Type 0} → Shown S → (keeps_open : S → ℕ → Bool) → ℕ → Files S → Told
    → Files S → Type 0
AnswersRelease shown keeps_open number old Does new = Releases shown keeps_open number old new
AnswersRelease shown keeps_open number old (Refuses why) new =
    (refusal_of_release old.table number ≡ Some why) × (new ≡ old)
AnswersRelease shown keeps_open number old (Tells status bytes) new = ⊥

-- a request is answered; what is none is refused, and changes nothing
abbrev pub AnswersRequest : {S : Type 0} → Shown S → (keeps_open : S → ℕ → Bool) → Option Asked → Files S → Told
    → Files S → Type 0
AnswersRequest shown keeps_open None old told new = (told ≡ Refuses refusal.NoRequest) × (new ≡ old)
AnswersRequest shown keeps_open (Some (Describing d)) old told new = AnswersDescription shown keeps_open d old told new
AnswersRequest shown keeps_open (Some (Performing p)) old told new = AnswersVerb shown p old told new
AnswersRequest shown keeps_open (Some (Releasing number)) old told new = AnswersRelease shown keeps_open number
    old told new

-- the frame of an answer
abbrev pub answer_frame : Told → List ℕ
answer_frame told = framed (answer_body told)

-- what is told of what came of a request, with the record that is in the area of a file
abbrev pub told_by : FileTable → Outcome → Told
told_by files (outcome.Refused why) = Refuses why
told_by files outcome.Done = Does
told_by files (outcome.Performed status file length) = Tells status (record_by (file_of_number files file) length)

-- the frame tells the answer to the request that the body has
abbrev pub TellsAnswer : {S : Type 0} → Shown S → (keeps_open : S → ℕ → Bool) → (body : List ℕ)
    → (old new : Files S) → (frame : List ℕ) → Type 0
TellsAnswer shown keeps_open body old new frame =
    (told : Told) × (frame ≡ answer_frame told) × AnswersRequest shown keeps_open (request_in body) old told new

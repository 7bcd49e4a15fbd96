-- A library that has not lied after requests had not before them, and shows truly what it showed so.
use Rattle.std.proofs.Common.{◌≡◌, ◌⊎◌, ℕ, Bool, List, [], ◌∷◌, Option, Some, None, IsTrue, inl, inr, sym, subst}
use Rattle.io_state.specs.declared.status.Status.{Status}
use Rattle.indexed_file.specs.Calls.{Keeps}
use Rattle.indexed_file.specs.Shown.{Shown}
use Rattle.serve.specs.Answer.{Told, Refuses, Does, Tells}
use Rattle.serve.specs.Reading.{request_in}
use Rattle.serve.specs.Request.{Asked, Describing, Performing, Releasing}
use Rattle.serve.specs.Files.{Files}
use Rattle.serve.specs.Steps.{AddsLast}
use Rattle.serve.specs.Answers.{AnswersRequest}
use Rattle.serve.specs.Serving.{Exchange, Serving, ClosesAllFiles}

module _ {S : Type 0} (shown : Shown S) where
  pub record KeepsTruth (old new : S) : Type 0 where
    pub honest : IsTrue (shown.is_honest new) → IsTrue (shown.is_honest old)
    pub truth : IsTrue (shown.is_honest new) → (name : List ℕ) → shown.IsShownTruly old name → shown.IsShownTruly new name

  itself : (library : S) → KeepsTruth library library
  itself library = record { honest = λ honest. honest; truth = λ honest name truly. truly }

  same_keeps : (old new : Files S) → new ≡ old → KeepsTruth old.library new.library
  same_keeps old new same = subst (λ (files : Files S). KeepsTruth old.library files.library) (sym same) (itself old.library)

  call_keeps : (old new : S) → Keeps shown old new → KeepsTruth old new
  call_keeps old new keeps = record { honest = keeps.honest; truth = keeps.truth }

  pub on_keeps : (old between new : S) → KeepsTruth old between → KeepsTruth between new → KeepsTruth old new
  on_keeps old between new first more = record {
    honest = λ honest. first.honest (more.honest honest);
    truth = λ honest name truly. more.truth honest name (first.truth (more.honest honest) name truly);
  }

  module _ (keeps_open : S → ℕ → Bool) where
    answer_keeps : (asked : Option Asked) (told : Told) (old new : Files S) → AnswersRequest shown keeps_open asked old told new → KeepsTruth old.library new.library
    answer_keeps None told old new a = same_keeps old new a.1
    answer_keeps (Some (Describing d)) Does old new a = by a.gives.from
      where
        by : (new.library ≡ old.library) ⊎ AddsLast shown keeps_open d.name a.unit old.library new.library → KeepsTruth old.library new.library
        by (inl same) = subst (KeepsTruth old.library) (sym same) (itself old.library)
        by (inr last) = call_keeps old.library new.library last.adds.keeps
    answer_keeps (Some (Describing d)) (Refuses why) old new a = call_keeps old.library new.library a.1.library.keeps
    answer_keeps (Some (Describing d)) (Tells status bytes) old new a = absurd a
    answer_keeps (Some (Performing p)) Does old new a = absurd a
    answer_keeps (Some (Performing p)) (Refuses why) old new a = same_keeps old new a.1
    answer_keeps (Some (Performing p)) (Tells status bytes) old new a = call_keeps old.library new.library a.1.does.performed.keeps
    answer_keeps (Some (Releasing number)) Does old new a = record {
      honest = λ honest. subst (λ (b : Bool). IsTrue b) a.stays.honest honest;
      truth = λ honest. a.stays.truth;
    }
    answer_keeps (Some (Releasing number)) (Refuses why) old new a = same_keeps old new a.1
    answer_keeps (Some (Releasing number)) (Tells status bytes) old new a = absurd a

    pub serving_keeps : (exchanges : List Exchange) (old new : Files S) → Serving shown keeps_open old exchanges new → KeepsTruth old.library new.library
    serving_keeps [] old new same = same_keeps old new same
    serving_keeps (e ∷ rest) old new (between, answers, more) =
        on_keeps old.library between.library new.library (answer_keeps (request_in e.body) e.told old between answers) (serving_keeps rest between new more)

  pub closes_keep : (statuses : List Status) (old new : Files S) → ClosesAllFiles shown old statuses new → KeepsTruth old.library new.library
  closes_keep [] old new (none, same) = same_keeps old new same
  closes_keep (status ∷ rest) old new (between, first, more) =
      on_keeps old.library between.library new.library (call_keeps old.library between.library first.closed.does.performed.keeps) (closes_keep rest between new more)

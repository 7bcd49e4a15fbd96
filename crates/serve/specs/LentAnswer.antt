-- The answer to a request, its head in the room that a caller has for it, and its record lent. All of
-- this is ours.
use Rattle.std.specs.Prelude.{◌≡◌, Bool, ℕ, List, [], ◌∷◌, ◌++◌, drop, length, ⊤}
use mathlib.Core.Option.{none}
use base.Fml.{Fml}
use denote.RattleType.{RattleType}
use denote.Ref.{MutBor}
use denote.Follow.{follows_so}
use Rattle.indexed_file.specs.declared.growing_library.GrowingLibrary as growing_library
use Rattle.indexed_file.specs.declared.library.Library as library
use Rattle.serve.specs.contracts.session.Session.{the_row}
use Rattle.indexed_file.specs.Shown.{Shown}
use Rattle.serve.specs.Answer.{Told}
use Rattle.serve.specs.Reading.{request_in}
use Rattle.serve.specs.Files.{Files}
use Rattle.serve.specs.Answers.{AnswersRequest, answer_frame}
use Rattle.serve.specs.ExactSession.{ExactAfter}
use Rattle.serve.specs.NoFalseFile.{NoFalseFileAfter}
use Rattle.serve.specs.Serving.{Exchange}

-- the request in a body, and what was told
abbrev pub exchange : List ℕ → Told → Exchange
exchange body told = record { body = body; told = told }

-- what came of the body of a request: the room for a head before it and after it, how many bytes of
-- it the head is, and the record that was lent
pub record LentFrame : Type 0 where
  pub body : List ℕ
  pub room : List ℕ
  pub room_after : List ℕ
  pub size : ℕ
  pub lent : List ℕ

abbrev pub lent_frame : (body room room_after : List ℕ) → (size : ℕ) → (lent : List ℕ) → LentFrame
lent_frame body room room_after size lent = record {
  body = body;
  room = room;
  room_after = room_after;
  size = size;
  lent = lent;
}

-- the request was answered, and its answer's frame is the head, which is the first of these bytes, so
-- many, and behind it the record; the other bytes stay. Where the requests before it have left no
-- false file at any moment, nor has this one; and where without a fault they were exact, so are they
-- with it
pub record AnswersLending {S : Type 0} (shown : Shown S) (keeps_open : S → ℕ → Bool) (a : LentFrame)
    (old new : Files S) : Type 0 where
  pub told : Told
  pub answers : AnswersRequest shown keeps_open (request_in a.body) old told new
  pub head : List ℕ
  pub frame : head ++ a.lent ≡ answer_frame told
  pub room_is : a.room_after ≡ head ++ drop (length head) a.room
  pub count_is : a.size ≡ length head
  pub no_false_file : (start : S) → (exchanges : List Exchange)
      → NoFalseFileAfter shown keeps_open start exchanges old
      → NoFalseFileAfter shown keeps_open start (exchanges ++ exchange a.body told ∷ []) new
  pub exact : (start : S) → (exchanges : List Exchange)
      → ExactAfter shown keeps_open start exchanges old
      → ExactAfter shown keeps_open start (exchanges ++ exchange a.body told ∷ []) new

-- once the session is lent no more, it is one of which this is so
abbrev pub EndsSo : (L : RattleType) → growing_library.Ghosts L.Denot → library.Ghosts L.Denot
    → MutBor (Files L.Denot) → (Files L.Denot → Type 0) → Fml
EndsSo L growing shown session IsSo =
    follows_so (the_row L growing shown) (the_row L growing shown) session.ghost_name none (λ _ _. ⊤) IsSo

-- it is one in which the request was so answered
abbrev pub EndsAnswering : (L : RattleType) → Shown L.Denot → (keeps_open : L.Denot → ℕ → Bool)
    → MutBor (Files L.Denot) → LentFrame → Fml
EndsAnswering L shown keeps_open session a =
    EndsSo L (record { keeps_open = keeps_open }) (record { shown = shown }) session
    (AnswersLending shown keeps_open a session.now)

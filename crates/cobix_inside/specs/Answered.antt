-- The answer to a request of C. All of this is ours.
use Rattle.std.specs.Prelude.{ℕ, Bool}
use Rattle.folder_shelf.specs.Kept.{is_kept}
use Rattle.indexed_file.specs.Shown.{Shown}
use Rattle.serve.specs.Files.{Files}
use Rattle.serve.specs.LentAnswer.{AnswersLending, LentFrame}
use Rattle.cobix_inside.specs.NewLibrary.{shown_inside}
use Rattle.cobix_inside.specs.declared.open_session.OpenSession.{OpenSession}

-- one session became another by it
abbrev pub BecomesAnswering : {S : Type 0} → (old new : Files S) → Shown S → (keeps_open : S → ℕ → Bool)
    → LentFrame → Type 0
BecomesAnswering old new shown keeps_open a = AnswersLending shown keeps_open a old new

-- so did those that C holds. A file is kept open by its unit in the system.
abbrev pub AnswersFrame : LentFrame → (old new : OpenSession) → Type 0
AnswersFrame a old new = BecomesAnswering old.session new.session (shown_inside _)
    (λ library. is_kept library.shelf.system.units.items) a

-- What a handle holds once what was lent of it is lent no more. All of this is ours.
use Rattle.std.specs.Prelude.{◌≡◌, Some, true, is_some, ⊤}
use mathlib.Core.Option.{none}
use base.Fml.{Fml}
use denote.Ref.{MutBor}
use denote.Follow.{follows, follows_so}
use Rattle.cobix_inside.specs.declared.handle.Handle.{Handle}
use Rattle.cobix_inside.specs.declared.open_session.OpenSession.{OpenSession}
use Rattle.cobix_inside.specs.contracts.handle.Handle.{the_row}
use Rattle.cobix_inside.specs.contracts.open_session.OpenSession.{the_row as session_row}

-- the handle with another session
abbrev pub handle_with : Handle → OpenSession → Handle
handle_with handle session = record { at = handle.at; alloc = handle.alloc; value = Some session }

-- it holds what was written last through this borrow of its session
abbrev pub handle_follows : MutBor Handle → MutBor OpenSession → Fml
handle_follows handle session =
    follows the_row session_row handle.ghost_name session.ghost_name (handle_with handle.now)

-- it holds a session, and this is so of the one that it held and of this one
abbrev pub HoldsSo : MutBor Handle → (OpenSession → OpenSession → Type 0) → Fml
HoldsSo handle IsSo = follows_so the_row the_row handle.ghost_name none (λ _ _. ⊤)
    (λ last. (is_some last.value ≡ true)
    × ((old new : OpenSession) → handle.now.value ≡ Some old → last.value ≡ Some new → IsSo old new))

use Rattle.std.proofs.Common.{◌≡◌, ℕ, Bool, [], sym, ap, subst}
use Rattle.page_store.specs.ShelfState.{ShelfState}
use Rattle.indexed_file.specs.Shown.{Shown}
use Rattle.serve.specs.Files.{Files}
use Rattle.serve.specs.ExactSession.{ExactAfter, ExactInRequests}
use Rattle.shelf_library.specs.State.{LibraryState}
use Rattle.shelf_library.specs.Units.{world_of}
use Rattle.cobix_inside.specs.Sessions.{NewSessionsAreExact}
use Rattle.cobix_inside.proofs.exports.exact_from_first.Goals as goal

-- a library of which this is so has no unit, and this shelf
new_are_exact : {S : Type 0} (shown : Shown S) (keeps_open : S → ℕ → Bool) (shelf_of : S → ShelfState) (shelf : ShelfState) (IsNew : S → Type 0) → ExactInRequests shown keeps_open
    → ((library : S) → IsNew library → (shown.world library).units ≡ []) → ((library : S) → IsNew library → shelf_of library ≡ shelf)
    → NewSessionsAreExact shown keeps_open shelf_of shelf IsNew
new_are_exact shown keeps_open shelf_of shelf IsNew laws no_unit shelf_is made new = record {
  start = new.library;
  shelf_is = shelf_is new.library new.is_new;
  exact = subst (λ (files : Files _). ExactAfter shown keeps_open new.library [] files) (sym new.files) (laws.first new.library (no_unit new.library new.is_new));
}

pub returns-clause-begun : goal.returns-clause-begun
returns-clause-begun c path pages frames =
    new_are_exact _ _ _ _ _ c.exact_in_requests.ensures
    (λ library is. ap (λ (state : LibraryState). (world_of state.shelf state.held).units) is)
    (λ library is. ap (λ (state : LibraryState). state.shelf) is)

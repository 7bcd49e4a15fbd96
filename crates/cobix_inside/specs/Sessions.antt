-- The beginning and the end of a session that C holds. All of this is ours.
use Rattle.std.specs.Prelude.{◌≡◌, ℕ, Bool, List, []}
use Rattle.indexed_file.specs.Shown.{Shown}
use Rattle.serve.specs.Files.{Files, files_at_start}
use Rattle.page_store.specs.declared.shelf.Shelf.{Ghosts}
use Rattle.page_store.specs.ShelfState.{ShelfState}
use Rattle.folder_shelf.specs.Replay.{Unseen, folder_after}
use Rattle.shelf_library.specs.State.{LibraryState}
use Rattle.shelf_library.specs.declared.library.ShelfLibrary.{ShelfLibrary}
use Rattle.serve.specs.ExactSession.{ExactAfter}
use Rattle.serve.specs.NoFalseFile.{NoFalseFileAfter}
use Rattle.serve.specs.Serving.{ClosesAndCounts}
use Rattle.cobix_inside.specs.NewLibrary.{IsNewInside, unasked, shelf_of, shown_inside}
use Rattle.cobix_inside.specs.declared.open_session.OpenSession.{OpenSession}

-- a session over a library of which this is so, in which no file is described
pub record IsNewSession {S : Type 0} (IsNew : S → Type 0) (made : Files S) : Type 0 where
  pub library : S
  pub is_new : IsNew library
  pub files : made ≡ files_at_start library

-- what C holds is a new session over a library that is so
abbrev pub StartsAs : LibraryState → OpenSession → Type 0
StartsAs state opened = IsNewSession (IsNewInside state) opened.session

-- the open files were closed, and so many of the closes failed
pub record ClosesAll {S : Type 0} (shown : Shown S) (old : Files S) (failed : ℕ) : Type 0 where
  pub last : Files S
  pub closes : ClosesAndCounts shown old last failed

-- a session over any library has had no false file before its first request
abbrev pub NoneFalseAtFirst : {S : Type 0} → Shown S → (keeps_open : S → ℕ → Bool) → Type 0
NoneFalseAtFirst {S} shown keeps_open = (start : S) → NoFalseFileAfter shown keeps_open start [] (files_at_start start)

-- a session has answered nothing over a library with this shelf, and so exactly what the definitions give
pub record IsExactAtFirst {S : Type 0} (shown : Shown S) (keeps_open : S → ℕ → Bool) (shelf_of : S → ShelfState)
    (shelf : ShelfState) (made : Files S) : Type 0 where
  pub start : S
  pub shelf_is : shelf_of start ≡ shelf
  pub exact : ExactAfter shown keeps_open start [] made

-- every session over a library of which this is so is one, with this shelf
abbrev pub NewSessionsAreExact : {S : Type 0} → Shown S → (keeps_open : S → ℕ → Bool)
    → (shelf_of : S → ShelfState) → ShelfState → (IsNew : S → Type 0) → Type 0
NewSessionsAreExact {S} shown keeps_open shelf_of shelf IsNew =
    (made : Files S) → IsNewSession IsNew made → IsExactAtFirst shown keeps_open shelf_of shelf made

-- so is every new session over the folder of a path, with the shelf that the folder is
abbrev pub AreExactAtFirst : {X : Type 0} → {shelf : Ghosts X}
    → (keeps_open : ShelfLibrary X shelf → ℕ → Bool) → Unseen → Type 0
AreExactAtFirst {X} {shelf} keeps_open disk = (path : List ℕ) → (pages frames : ℕ)
    → NewSessionsAreExact (shown_inside shelf) keeps_open (shelf_of shelf) (folder_after disk path [] [])
    (IsNewInside (unasked disk path pages frames))

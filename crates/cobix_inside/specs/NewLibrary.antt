-- The library of a session that C asks. All of this is ours.
use Rattle.std.specs.Prelude.{◌≡◌, ℕ, List, []}
use Rattle.std.specs.NonZero.{non_zero_usize_get}
use Rattle.page_store.specs.declared.shelf.Shelf.{Ghosts}
use Rattle.page_store.specs.ShelfState.{ShelfState}
use Rattle.folder_shelf.specs.Replay.{Unseen, folder_after}
use Rattle.indexed_file.specs.Shown.{Shown}
use Rattle.shelf_library.specs.Library.{shown_by}
use Rattle.shelf_library.specs.State.{LibraryState}
use Rattle.shelf_library.specs.declared.library.ShelfLibrary.{ShelfLibrary}
use Rattle.cobix_inside.specs.declared.library_limits.LibraryLimits.{LibraryLimits}

-- a library, by what its shelf shows
abbrev pub inside_state : {X : Type 0} → (shelf : Ghosts X) → ShelfLibrary X shelf → LibraryState
inside_state shelf library = record {
  shelf = shelf.state library.shelf;
  held = library.units.items;
  faults = shelf.fault_count library.shelf;
  limit = library.limit;
  frames = non_zero_usize_get library.frames;
}

-- what libraries over such shelves show
abbrev pub shown_inside : {X : Type 0} → (shelf : Ghosts X) → Shown (ShelfLibrary X shelf)
shown_inside shelf = shown_by (inside_state shelf)

-- the files of its shelf
abbrev pub shelf_of : {X : Type 0} → (shelf : Ghosts X) → ShelfLibrary X shelf → ShelfState
shelf_of shelf library = shelf.state library.shelf

-- what a library is that was asked nothing yet: over the folder of this path, with these limits
abbrev pub unasked : Unseen → (path : List ℕ) → (limit frames : ℕ) → LibraryState
unasked disk path limit frames = record {
  shelf = folder_after disk path [] [];
  held = [];
  faults = 0;
  limit = limit;
  frames = frames;
}

abbrev pub unasked_within : Unseen → (path : List ℕ) → LibraryLimits → LibraryState
unasked_within disk path limits = unasked disk path limits.pages (non_zero_usize_get limits.frames)

-- a library that is so
abbrev pub IsNewInside : {X : Type 0} → {shelf : Ghosts X} → LibraryState → ShelfLibrary X shelf → Type 0
IsNewInside {X} {shelf} state library = inside_state shelf library ≡ state

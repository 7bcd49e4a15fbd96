-- What the shelf of the file of a path shows.
use Rattle.std.specs.Prelude.{List, [], ◌∷◌, ℕ, Bool, true, false}
use Rattle.page_store.specs.DeviceFile.{DeviceFile, absent}
use Rattle.page_store.specs.ShelfState.{ShelfState}
use Rattle.folder_shelf.specs.Calls.{Call}
use Rattle.folder_shelf.specs.Answers.{are_answers_of}

abbrev pub is_empty_name : List ℕ → Bool
is_empty_name [] = true
is_empty_name (byte ∷ bytes) = false

-- the empty name is that of the file, and no other
abbrev pub file_of_empty_name : DeviceFile → (name : List ℕ) → DeviceFile
file_of_empty_name file [] = file
file_of_empty_name file (byte ∷ name) = absent

-- with units of these names, after these calls, where a disk has these files
abbrev pub shelf_after : (files : List ℕ → DeviceFile) → (path : List ℕ) → (names : List (List ℕ))
    → List Call → ShelfState
shelf_after files path names calls = record {
  names = names;
  file = file_of_empty_name (files path);
  is_honest = are_answers_of files calls;
}

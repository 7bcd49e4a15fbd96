-- The folder and the name of a new file, by its path. All of this is ours; what the parent of a path is, and
-- its last component, is a definition of `std`.
use Rattle.std.specs.Prelude.{◌≡◌, ◌==◌, ℕ, List, [], length, Option, Some, None, true, codes, if◌then◌else◌}
use Rattle.std.specs.Path.{path_parent, path_file_name}
use Rattle.io_state.specs.FileName.{is_file_name}
use Rattle.file_building.specs.declared.new_place.NewPlace.{NewPlace}

-- a folder: the one that the program runs in, where its path is empty
abbrev pub folder_or_here : List ℕ → List ℕ
folder_or_here folder = if length folder == 0 then codes "." else folder

abbrev pub folder_by : Option (List ℕ) → List ℕ
folder_by None = codes "."
folder_by (Some folder) = folder_or_here folder

abbrev pub part_by : Option (List ℕ) → List ℕ
part_by None = []
part_by (Some name) = name

-- the folder of a path, which stands before its last part
abbrev pub folder_of : (path : List ℕ) → List ℕ
folder_of path = folder_by (path_parent path)

-- its last part; none, where that is "." or ".." or there is no part
abbrev pub last_part : (path : List ℕ) → List ℕ
last_part path = part_by (path_file_name path)

-- the place of a path: its folder and its last part, which is the name of a file
pub record IsNewPlaceOf (path : List ℕ) (place : NewPlace) : Type 0 where
  pub folder_is : place.folder.now ≡ folder_of path
  pub name_is : place.name.bytes ≡ last_part path
  pub is_name : is_file_name place.name.bytes ≡ true

-- Calls on the files of one folder, and on nothing else.
use Rattle.std.specs.Prelude.{◌≡◌, ℕ, Bool, true, false, ◌&&◌, List, [], ◌∷◌, ◌++◌, length, take, bytes_eq, codes}
use Rattle.folder_shelf.specs.Calls.{Call, looked, made, measured, read, held, written, flushed, entered}
use Rattle.folder_shelf.specs.Calls.{asked_of_folder, taken, taken_shared, streams_held}
use Rattle.folder_shelf.specs.SystemState.{SystemState}

-- the path begins with that of the folder
abbrev pub is_below : (folder path : List ℕ) → Bool
is_below folder path = let front = folder ++ codes "/" in bytes_eq (take (length front) path) front

-- the call is on a file of the folder
abbrev pub is_on_file_of : (folder : List ℕ) → Call → Bool
is_on_file_of folder (looked path found) = is_below folder path
is_on_file_of folder (made path done) = is_below folder path
is_on_file_of folder (measured path size) = is_below folder path
is_on_file_of folder (read path done at bytes) = is_below folder path
is_on_file_of folder (held path done) = is_below folder path
is_on_file_of folder (written path at took bytes) = is_below folder path
is_on_file_of folder (flushed path done) = is_below folder path
is_on_file_of folder (entered path) = false
is_on_file_of folder (asked_of_folder path found) = false
is_on_file_of folder (taken path most bytes) = false
is_on_file_of folder (taken_shared path most bytes) = false
is_on_file_of folder (streams_held done) = false

-- the first call is that the folder was entered, and each later one is on a file of it
abbrev pub stay_within : (folder : List ℕ) → List Call → Bool
stay_within folder [] = false
stay_within folder (entered path ∷ []) = bytes_eq path folder
stay_within folder (call ∷ earlier) = is_on_file_of folder call && stay_within folder earlier

-- the system has the record of a folder that it entered: nothing was asked of it before, and since then
-- it was asked of the files of that folder alone
abbrev pub StaysWithin : SystemState → Type 0
StaysWithin system = stay_within system.folder system.calls ≡ true

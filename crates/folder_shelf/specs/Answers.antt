-- When what a system answered is true of the files of its paths.
use Rattle.std.specs.Prelude.{ℕ, ◌+◌, ◌==◌, nat_le, Bool, true, false, ◌&&◌, List, [], ◌∷◌, length, take}
use Rattle.std.specs.Prelude.{drop, bytes_eq, Some, None, is_some}
use Rattle.page_store.specs.DeviceFile.{DeviceFile, content}
use Rattle.folder_shelf.specs.Calls.{Call, looked, made, measured, read, held, written, flushed}
use Rattle.folder_shelf.specs.Calls.{entered, asked_of_folder, taken, taken_shared, streams_held}

-- the file is there and has so many bytes
abbrev pub has_size : DeviceFile → ℕ → Bool
has_size file size = is_some file.seen && (size == length (content file))

-- the file is there and has these bytes from byte `at` on
abbrev pub has_bytes : DeviceFile → (at : ℕ) → List ℕ → Bool
has_bytes file at bytes = (is_some file.seen && nat_le (at + length bytes) (length (content file)))
    && bytes_eq bytes (take (length bytes) (drop at (content file)))

-- the call failed, or what it told is so of the file that is at its path. Only those calls are held
-- against the files by which a page or the size is read
abbrev pub is_answer_of : (files : List ℕ → DeviceFile) → Call → Bool
is_answer_of files (looked path found) = true
is_answer_of files (made path done) = true
is_answer_of files (measured path None) = true
is_answer_of files (measured path (Some size)) = has_size (files path) size
is_answer_of files (read path false at bytes) = true
is_answer_of files (read path true at bytes) = has_bytes (files path) at bytes
is_answer_of files (held path done) = true
is_answer_of files (written path at took bytes) = true
is_answer_of files (flushed path done) = true
is_answer_of files (entered path) = true
is_answer_of files (asked_of_folder path told) = true
is_answer_of files (taken path most bytes) = true
is_answer_of files (taken_shared path most bytes) = true
is_answer_of files (streams_held done) = true

-- so is each of these calls
abbrev pub are_answers_of : (files : List ℕ → DeviceFile) → List Call → Bool
are_answers_of files [] = true
are_answers_of files (call ∷ calls) = are_answers_of files calls && is_answer_of files call

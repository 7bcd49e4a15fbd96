-- Calls that read the file of a path.
use Rattle.std.specs.Prelude.{Bool, true, false, ◌&&◌, List, [], ◌∷◌}
use Rattle.folder_shelf.specs.Calls.{Call, looked, made, measured, read, held, written, flushed}
use Rattle.folder_shelf.specs.Calls.{entered, asked_of_folder, taken, taken_shared, streams_held}

-- a page or the size of a file is read by the call
abbrev pub is_read : Call → Bool
is_read (looked path found) = false
is_read (made path done) = false
is_read (measured path size) = true
is_read (read path done at bytes) = true
is_read (held path done) = false
is_read (written path at took bytes) = false
is_read (flushed path done) = false
is_read (entered path) = false
is_read (asked_of_folder path told) = false
is_read (taken path most bytes) = false
is_read (taken_shared path most bytes) = false
is_read (streams_held done) = false

-- so by each of these calls
abbrev pub are_reads : List Call → Bool
are_reads [] = true
are_reads (call ∷ calls) = is_read call && are_reads calls

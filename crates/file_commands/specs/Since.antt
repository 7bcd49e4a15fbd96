-- What was read by a system since it was in some state.
use Rattle.std.specs.Prelude.{◌≡◌, ◌-◌, ◌||◌, Bool, true, false, List, [], ◌∷◌, take, length, Some, None}
use Rattle.page_store.specs.ShelfState.{ShelfState}
use Rattle.folder_shelf.specs.Answers.{are_answers_of}
use Rattle.folder_shelf.specs.Replay.{Unseen}
use Rattle.folder_shelf.specs.Calls.{Call, looked, made, measured, read, held, written, flushed}
use Rattle.folder_shelf.specs.Calls.{entered, asked_of_folder, taken, taken_shared, streams_held}
use Rattle.folder_shelf.specs.Reading.{with_calls}
use Rattle.folder_shelf.specs.Reads.{are_reads}
use Rattle.folder_shelf.specs.SystemState.{SystemState}

-- a system of which nothing is known
abbrev pub unasked_since : SystemState
unasked_since = record { folder = []; names = []; calls = [] }

-- the calls that were made since, the newest in front
abbrev pub calls_since : (before now : SystemState) → List Call
calls_since before now = take (length now.calls - length before.calls) now.calls

-- a page or the size of a file was asked for by the call, and did not come
abbrev pub is_failed_read : Call → Bool
is_failed_read (looked path found) = false
is_failed_read (made path done) = false
is_failed_read (measured path None) = true
is_failed_read (measured path (Some size)) = false
is_failed_read (read path false at bytes) = true
is_failed_read (read path true at bytes) = false
is_failed_read (held path done) = false
is_failed_read (written path at took bytes) = false
is_failed_read (flushed path done) = false
is_failed_read (entered path) = false
is_failed_read (asked_of_folder path told) = false
is_failed_read (taken path most bytes) = false
is_failed_read (taken_shared path most bytes) = false
is_failed_read (streams_held done) = false

-- so by one of these calls
abbrev pub has_failed_read : List Call → Bool
has_failed_read [] = false
has_failed_read (call ∷ calls) = is_failed_read call || has_failed_read calls

-- a shelf is as honest as the answers that were given since are those of the files of a disk
abbrev pub IsHonestSince : Unseen → (before now : SystemState) → ShelfState → Type 0
IsHonestSince disk before now shelf = shelf.is_honest ≡ are_answers_of disk.first (calls_since before now)

-- since a system was in this state pages and sizes of files were read by it, and nothing else was asked of
-- it; and whether one of them did not come
pub record HasOnlyRead (before now : SystemState) (has_failed : Bool) : Type 0 where
  pub noted : now ≡ with_calls (calls_since before now) before
  pub reading : are_reads (calls_since before now) ≡ true
  pub failed : has_failed ≡ has_failed_read (calls_since before now)

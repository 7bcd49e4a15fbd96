-- The calls of a shelf that failed.
use Rattle.std.specs.Prelude.{ℕ, ◌+◌, ◌-◌, ◌^◌, ◌==◌, min, Bool, false, not, List, [], ◌∷◌, length, is_some}
use Rattle.std.specs.Prelude.{if◌then◌else◌}
use Rattle.folder_shelf.specs.Calls.{Call, looked, made, measured, read, held, written, flushed, entered}
use Rattle.folder_shelf.specs.Calls.{asked_of_folder, taken, taken_shared, streams_held}

-- what was asked of a unit's file was not done, or not told
abbrev pub is_failed_call : Call → Bool
is_failed_call (looked path found) = not (is_some found)
is_failed_call (made path done) = not done
is_failed_call (measured path size) = not (is_some size)
is_failed_call (read path done at bytes) = not done
is_failed_call (held path done) = not done
is_failed_call (written path at n bytes) = not (n == length bytes)
is_failed_call (flushed path done) = not done
is_failed_call (entered path) = false
is_failed_call (asked_of_folder path told) = false
is_failed_call (taken path most bytes) = false
is_failed_call (taken_shared path most bytes) = false
is_failed_call (streams_held done) = false

-- how many calls failed since a folder was entered, as far as 64 bits can count
abbrev pub failed_calls : List Call → ℕ
failed_calls [] = 0
failed_calls (entered path ∷ earlier) = 0
failed_calls (call ∷ earlier) = if is_failed_call call then min (failed_calls earlier + 1)
    (2 ^ 64 - 1) else failed_calls earlier

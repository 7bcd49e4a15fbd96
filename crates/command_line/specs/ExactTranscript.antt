-- What a clean run of a deck over a folder writes and leaves, by what the system was asked and answered.
use Rattle.std.specs.Prelude.{◌≡◌, ℕ, true, List, Option}
use Rattle.folder_shelf.specs.SystemState.{SystemState}
use Rattle.folder_shelf.specs.Replay.{Unseen, folder_state}
use Rattle.deck_runner.specs.declared.run_end.RunEnd.{RunEnd}
use Rattle.shelf_run.specs.ExactRun.{IsExactRun}
use Rattle.command_line.specs.Folder.{folder_at_first}

-- a run whose end is clean is exact, between what the folder held before the first call and what it
-- holds after the calls, by what they were answered
abbrev pub TellsExactly : {W : Type 0} → Unseen → (path : List ℕ) → SystemState → (bytes : List ℕ)
    → (W → Option (List ℕ)) → (old new : W) → RunEnd → Type 0
TellsExactly disk path system bytes contents old new end = end.clean ≡ true → IsExactRun bytes
    (folder_at_first disk path) (folder_state disk system) (contents old) (contents new) end

-- A folder before the first call on it.
use Rattle.std.proofs.Common.{◌≡◌, ℕ, List, [], ◌∷◌, refl, subst}
use Rattle.page_store.specs.ShelfState.{ShelfState}
use Rattle.folder_shelf.specs.Calls.{Call, entered}
use Rattle.folder_shelf.specs.SystemState.{SystemState}
use Rattle.folder_shelf.specs.Replay.{Unseen, folder_state}
use Rattle.shelf_run.specs.ShelfRun.{LeavesFiles, StaysSound}
use Rattle.command_line.specs.Folder.{folder_at_first}

-- a folder was entered in a system that was asked nothing yet
module _ (disk : Unseen) (path : List ℕ) (calls : List Call) (system : SystemState) (enters : system ≡ record { folder = path; names = []; calls = entered path ∷ calls }) (no_calls : calls ≡ []) where
  pub untouched : folder_state disk system ≡ folder_at_first disk path
  untouched = rw enters (rw no_calls refl)

  -- what is sound before the first call stays so
  pub sound_from_first : (last : ShelfState) → StaysSound (folder_state disk system) last → StaysSound (folder_at_first disk path) last
  sound_from_first last = subst (λ (first : ShelfState). StaysSound first last) untouched

  -- what is left as it was is so as before the first call
  pub left_from_first : (last : ShelfState) → LeavesFiles (folder_state disk system) last → LeavesFiles (folder_at_first disk path) last
  left_from_first last = subst (λ (first : ShelfState). LeavesFiles first last) untouched

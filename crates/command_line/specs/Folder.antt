-- The folder of a run. All of this is ours.
use Rattle.std.specs.Prelude.{List, ℕ, []}
use Rattle.page_store.specs.ShelfState.{ShelfState}
use Rattle.folder_shelf.specs.SystemState.{SystemState}
use Rattle.folder_shelf.specs.Replay.{Unseen, folder_after, folder_state}

-- what the folder of this path held before the first call
abbrev pub folder_at_first : Unseen → List ℕ → ShelfState
folder_at_first disk path = folder_after disk path [] []

-- what is so of the folder of this path before the first call on it, and of the folder of the units
-- after the calls since it was entered, by what they were answered
abbrev pub OverFolder : Unseen → List ℕ → SystemState → (ShelfState → ShelfState → Type 0) → Type 0
OverFolder disk path system IsSo = IsSo (folder_at_first disk path) (folder_state disk system)

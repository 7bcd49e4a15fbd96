-- What the program is over. All of this is ours.
use Rattle.std.specs.Prelude.{ℕ, Bool, List, Option}
use Rattle.page_store.specs.declared.shelf.Shelf.{Ghosts}
use Rattle.folder_shelf.specs.SystemState.{SystemState}
use Rattle.folder_shelf.specs.Replay.{Unseen}

-- a system, by what it was asked and answered; its disk, and its folders as shelves; an input, by what it
-- has left; and an output, by what it has
pub record Devices (S X I W : Type 0) : Type 1 where
  pub state : S → SystemState
  pub disk : Unseen
  pub shelf : Ghosts X
  pub keeps_open : X → ℕ → Bool
  pub left : I → Option (List ℕ)
  pub contents : W → Option (List ℕ)

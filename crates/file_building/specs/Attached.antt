-- Two shelves, of which each has one unit.
use Rattle.std.specs.Prelude.{◌≡◌, ◌⊎◌, ℕ, List, [], ◌∷◌, Result, Err}
use Rattle.io_state.specs.declared.fault.Fault.TheVariants.{Memory}
use Rattle.page_store.specs.ShelfState.{ShelfState, attached_as}
use Rattle.shelf_library.specs.FileOpening.{CountedShelf, counted_shelf}
use Rattle.file_building.specs.declared.fault.Copied.{Copied}
use Rattle.file_building.specs.declared.fault.CopyingFault.{CopyingFault}
use Rattle.file_building.specs.declared.fault.CopyingFault.TheVariants.{Writing}
use Rattle.file_building.specs.Copying.{CopiesBetween}

-- memory was wanting for the names of the files, and no file was changed
pub record LacksNames (old new : ShelfState) (result : Result Copied CopyingFault) : Type 0 where
  pub told : result ≡ Err (Writing Memory)
  pub file : new.file ≡ old.file

-- the shelf, of which one name is the only unit
abbrev pub named_shelf : List ℕ → ShelfState → ℕ → CountedShelf
named_shelf name shelf faults = counted_shelf (attached_as (name ∷ []) shelf) faults

-- the file of the empty name of one shelf was copied into the file of this name of another; or memory was
-- wanting for the two names
module _ {S T : Type 0} (state : S → ShelfState) (count : S → ℕ) (state_to : T → ShelfState)
    (count_to : T → ℕ) where
  abbrev pub CopiesNamed : (name : List ℕ) → (key limit : ℕ) → S → S → T → T → Result Copied CopyingFault → Type 0
  CopiesNamed name key limit from from_now to to_now result =
      LacksNames (state_to to) (state_to to_now) result
      ⊎ CopiesBetween 0 0 key limit (named_shelf [] (state from) (count from))
      (counted_shelf (state from_now) (count from_now)) (named_shelf name (state_to to) (count_to to))
      (counted_shelf (state_to to_now) (count_to to_now)) result

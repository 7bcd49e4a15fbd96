-- A shelf of which only answers were asked.
use Rattle.std.specs.Prelude.{ℕ, ◌+◌, ◌-◌, ◌^◌, ◌≤◌, min, Bool, false, IsTrue, List, []}
use Rattle.pages.specs.Chunks.{chunks}
use Rattle.page_store.specs.DeviceFile.{absent, content}
use Rattle.page_store.specs.ShelfState.{ShelfState, OnlyAnswers, unit_file}

-- a shelf without files
abbrev pub no_shelf : ShelfState
no_shelf = record { names = []; file = λ name. absent; is_honest = false }

-- the first pages of a unit's file, so many
abbrev pub first_pages_of : ShelfState → ℕ → ℕ → List (List ℕ)
first_pages_of shelf unit count = chunks 4096 count (content (unit_file shelf unit))

-- since a shelf showed this state and had counted so many faults, only answers were asked of it; and
-- where a call has failed, its count of faults rose, or stands at its greatest value
pub record HasOnlyAnswered (before : ShelfState) (faults : ℕ) (now : ShelfState) (count : ℕ)
    (has_failed : Bool) : Type 0 where
  pub only : OnlyAnswers before now
  pub no_fewer : faults ≤ count
  pub counted : IsTrue has_failed → min (faults + 1) (2 ^ 64 - 1) ≤ count

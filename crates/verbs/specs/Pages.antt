-- The pages that a statement may ask for. All of this is ours.
use Rattle.std.specs.Prelude.{◌≡◌, ℕ, ◌+◌, ◌*◌, ◌≤◌, Bool, true, false}
use Rattle.io_state.specs.declared.status.Status.{Status}
use Rattle.io_state.specs.declared.statement.FileStatement.{FileStatement}
use Rattle.io_state.specs.declared.statement.FileStatement.TheVariants.{Open, Close, ReadNext, Read, Start}
use Rattle.io_state.specs.declared.statement.FileStatement.TheVariants.{Write, Rewrite, Delete}
use Rattle.indexed_file.specs.Room.{Room, levels_of_room, most_to_read, most_to_seek, most_to_change}
use Rattle.indexed_file.specs.Shown.{Shown}
use Rattle.verbs.specs.Faults.{is_fault}

-- a statement that answers no fault leaves the count of unit u's pages at this at most
abbrev pub AnswersWithin : {S : Type 0} → Shown S → ℕ → ℕ → S → Status → Type 0
AnswersWithin shown u most new status = is_fault status ≡ false → shown.pages_asked new u ≤ most

-- a WRITE may have to look for the greatest prime value before it adds its record
abbrev pub most_to_write : Room → ℕ
most_to_write room = most_to_seek room 0 + most_to_change room

-- the statements that begin the count of their unit's pages, where the unit is open: all but OPEN and CLOSE
abbrev pub counts_pages : FileStatement → Bool
counts_pages (Open mode) = false
counts_pages (Close lock) = false
counts_pages ReadNext = true
counts_pages (Read key) = true
counts_pages (Start key length relation) = true
counts_pages Write = true
counts_pages Rewrite = true
counts_pages Delete = true

-- the pages that they may ask for, k being the key of reference
abbrev pub most_asked : FileStatement → ℕ → Room → ℕ
most_asked (Open mode) k room = 0
most_asked (Close lock) k room = 0
most_asked ReadNext k room = most_to_read room k
most_asked (Read key) k room = most_to_read room key
most_asked (Start key length relation) k room = most_to_seek room key
most_asked Write k room = 32 * levels_of_room room
most_asked Rewrite k room = 32 * levels_of_room room
most_asked Delete k room = 32 * levels_of_room room

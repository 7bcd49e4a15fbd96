-- How a statement begins the count of the pages that its unit is asked for. All of this is ours.
use Rattle.std.specs.Prelude.{◌≡◌, ℕ, Bool, true, false, ◌&&◌, IsTrue}
use Rattle.io_state.specs.declared.statement.FileStatement.{FileStatement}
use Rattle.indexed_file.specs.World.{holding_at, is_open}
use Rattle.indexed_file.specs.Shown.{Shown}
use Rattle.indexed_file.specs.UnitCalls.{RestartsCount}
use Rattle.verbs.specs.Pages.{counts_pages}

-- a statement on unit u begins the count of its pages: the unit is open, and the statement is
-- neither OPEN nor CLOSE
abbrev pub begins_count : {S : Type 0} → Shown S → ℕ → FileStatement → S → Bool
begins_count shown u statement library = counts_pages statement
    && is_open (holding_at (shown.world library) u)

-- the count is begun where the statement begins it, and nothing else changes
pub record BeginsCount {S : Type 0} (shown : Shown S) (u : ℕ) (statement : FileStatement)
    (old new : S) : Type 0 where
  pub begun : IsTrue (begins_count shown u statement old) → RestartsCount shown u old new
  pub left : begins_count shown u statement old ≡ false → new ≡ old

-- so for every statement that begins the count on an open unit
abbrev pub CountsAnew : {S : Type 0} → Shown S → ℕ → S → S → Type 0
CountsAnew shown u old new = (statement : FileStatement) → counts_pages statement ≡ true
    → BeginsCount shown u statement old new

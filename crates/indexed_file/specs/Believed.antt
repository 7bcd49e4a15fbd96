-- When what a library answers is to be believed.
use Rattle.std.specs.Prelude.{ℕ, IsTrue}
use Rattle.indexed_file.specs.World.{name_at}
use Rattle.indexed_file.specs.Shown.{Shown}

-- a fact about a call on unit u is to be believed: it holds where the library is honest after the
-- call, and what the unit's name showed before it was true
abbrev pub Believed : {S : Type 0} → Shown S → ℕ → S → S → Type 0 → Type 0
Believed shown u old new fact = IsTrue (shown.is_honest new)
    → shown.IsShownTruly old (name_at (shown.world old) u) → fact

use Rattle.std.proofs.Common.{◌≡◌, ℕ, ◌<◌, ◌≤◌, length, get_or}
use Rattle.page_cache.proofs.table.told_from.Given as goal

abbrev pub invariant-loop-cell : goal.invariant-loop-cell
invariant-loop-cell l = (c : ℕ) → l.from ≤ c → c < l.cell → get_or l.cells c 0 < length l.numbers → get_or l.numbers (get_or l.cells c 0) 0 ≡ l.n → ⊥

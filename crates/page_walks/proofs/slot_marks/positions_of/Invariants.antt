use Rattle.std.proofs.Common.{◌≡◌, ◌<◌, ℕ, Some, get_or}
use Rattle.std.specs.Prelude.{slice_get}
use Rattle.pages.specs.Owners.{AreApart}
use Rattle.page_walks.proofs.slot_marks.positions_of.Given as goal

abbrev pub invariant-loop-i : goal.invariant-loop-i
invariant-loop-i l = AreApart l.own → (j : ℕ) → j < l.i → slice_get l.positions.items (get_or l.own j 0) ≡ Some j

use Rattle.std.proofs.Common.{◌≤◌, take}
use Rattle.file_building.specs.Entries.{ranked_entries}
use Rattle.file_building.specs.Ranks.{RanksRise}
use Rattle.file_building.proofs.entries.rise.Given as goal

abbrev pub invariant-loop-i : goal.invariant-loop-i
invariant-loop-i l = (1 ≤ l.i) × RanksRise (take l.i (ranked_entries l.entries))

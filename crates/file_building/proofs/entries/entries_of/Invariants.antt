use Rattle.std.proofs.Common.{◌≡◌}
use Rattle.pages.specs.Chunks.{chunks}
use Rattle.file_building.specs.Entries.{ranked_entries, entries_from}
use Rattle.file_building.proofs.entries.entries_of.Given as goal

abbrev pub invariant-loop-i : goal.invariant-loop-i
invariant-loop-i l = ranked_entries l.entries.items ≡ entries_from l.schema l.k 1 (chunks l.schema.least l.i l.fronts)

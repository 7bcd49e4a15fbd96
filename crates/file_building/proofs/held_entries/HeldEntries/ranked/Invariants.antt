use Rattle.std.proofs.Common.{◌≡◌, map}
use Rattle.pages.specs.Chunks.{chunks}
use Rattle.key_index.specs.Stored.{alt_entry_in}
use Rattle.file_building.specs.Entries.{ranked_entries}
use Rattle.file_building.specs.Held.{held_size}
use Rattle.file_building.proofs.held_entries.HeldEntries.ranked.Given as goal

abbrev pub invariant-loop-i : goal.invariant-loop-i
invariant-loop-i l = ranked_entries l.entries.items ≡ map (alt_entry_in l.self.width) (chunks (held_size l.self) l.i l.self.bytes.items)

use Rattle.std.proofs.Common.{◌≡◌, map}
use Rattle.pages.specs.Chunks.{chunks}
use Rattle.key_index.specs.Stored.{alt_entry_in}
use Rattle.file_building.specs.Entries.{entry_in}
use Rattle.file_building.specs.Held.{held_size, held_entries, entries_up_to, IsHeldFor}
use Rattle.file_building.proofs.held_entries.HeldEntries.up_to.Given as goal

abbrev pub invariant-loop-i : goal.invariant-loop-i
invariant-loop-i l = record {
  entries : held_entries l.held ≡ entries_up_to (entry_in l.top) (map (alt_entry_in l.self.width) (chunks (held_size l.self) l.i l.self.bytes.items));
  same : IsHeldFor l.self.width l.self.prime l.held;
}

use Rattle.std.proofs.Common.{◌≡◌, ◌+◌, ℕ, List, length, IsTrue}
use Rattle.key_index.specs.declared.entry.AltEntry.{AltEntry}
use Rattle.key_index.specs.Standing.{AltStands}
use Rattle.file_building.specs.CopiedRows.{WhereBothHonest}
use Rattle.file_building.specs.CopiedEntries.{HasCopiedEntries, IsCopyingIndex}
use Rattle.file_building.proofs.copied_entries.copy_alternate.Given as goal

abbrev pub invariant-loop : goal.invariant-loop
invariant-loop g l = record {
  reads : g.P.Pages.shown.Reads l.fn.from l.from;
  writes : g.Q.Pages.shown.Writes l.fn.to l.to;
  fits : IsCopyingIndex l.index l.walk l.builder;
  copied : WhereBothHonest g.P.Pages.shown g.Q.Pages.shown l.from l.fn.to l.to ((entries : List AltEntry) (own : List ℕ) (left : ℕ) → AltStands l.index (g.P.Pages.shown.state l.fn.from).live entries own
      → l.records ≡ length entries → left + l.counter ≡ l.records
      → HasCopiedEntries l.index l.walk l.builder (g.P.Pages.shown.state l.fn.from).live (g.Q.Pages.shown.state l.fn.to).live (g.Q.Pages.shown.state l.to).live entries left × IsTrue (g.Q.Pages.shown.state l.to).is_sound);
}

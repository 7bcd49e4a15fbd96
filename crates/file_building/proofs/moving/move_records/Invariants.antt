use Rattle.std.proofs.Common.{◌≡◌, ◌+◌, ℕ, IsTrue}
use Rattle.indexed_file.specs.File.{File}
use Rattle.open_file.specs.Fields.{file_schema}
use Rattle.open_file.specs.InOrder.{prime_entries, alt_entries}
use Rattle.open_file.specs.Stands.{Stands}
use Rattle.file_building.specs.CopiedRows.{WhereBothHonest}
use Rattle.file_building.specs.Moving.{HasMovedEntries, IsMoving}
use Rattle.file_building.proofs.moving.move_records.Given as goal

abbrev pub invariant-loop : goal.invariant-loop
invariant-loop g l = record {
  reads : g.P.Pages.shown.Reads l.fn.from l.from;
  writes : g.Q.Pages.shown.Writes l.fn.to l.to;
  fits : IsMoving l.source l.index l.walk l.mover;
  moved : WhereBothHonest g.P.Pages.shown g.Q.Pages.shown l.from l.fn.to l.to ((file : File) (stands : Stands l.source (g.P.Pages.shown.state l.fn.from).live file) (left : ℕ) → left + l.counter ≡ l.count
      → HasMovedEntries l.index l.walk l.mover (g.P.Pages.shown.state l.fn.from).live (g.Q.Pages.shown.state l.fn.to).live (g.Q.Pages.shown.state l.to).live stands.slots
      (prime_entries (file_schema l.source) stands.places file.rows) (alt_entries (file_schema l.source) l.key file.rows) left × IsTrue (g.Q.Pages.shown.state l.to).is_sound);
}

use Rattle.std.proofs.Common.{◌≡◌, ◌+◌, ℕ, None, IsTrue}
use Rattle.indexed_file.specs.File.{File}
use Rattle.open_file.specs.Stands.{Stands}
use Rattle.file_building.specs.CopiedRows.{HasCopiedRows, IsCopying, WhereBothHonest}
use Rattle.file_building.proofs.rows.copy_rows.Given as goal

abbrev pub invariant-loop : goal.invariant-loop
invariant-loop g l = record {
  reads : g.P.Pages.shown.Reads l.fn.from l.from;
  writes : g.Q.Pages.shown.Writes l.fn.to l.to;
  fits : IsCopying l.source l.walk l.rows;
  copied : WhereBothHonest g.P.Pages.shown g.Q.Pages.shown l.from l.fn.to l.to ((file : File) (left : ℕ) → Stands l.source (g.P.Pages.shown.state l.fn.from).live file
      → ((n : ℕ) → (g.Q.Pages.shown.state l.fn.to).live n ≡ None) → left + l.counter ≡ l.count
      → HasCopiedRows l.source l.walk l.rows (g.P.Pages.shown.state l.fn.from).live (g.Q.Pages.shown.state l.to).live file.rows left × IsTrue (g.Q.Pages.shown.state l.to).is_sound);
}

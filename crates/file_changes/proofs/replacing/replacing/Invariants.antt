use Rattle.std.proofs.Common.{◌≡◌, Some, IsTrue}
use Rattle.record_layout.specs.Schema.{prime_of}
use Rattle.indexed_file.specs.File.{Row, File}
use Rattle.indexed_file.specs.Change.{row_of}
use Rattle.open_file.specs.Fields.{file_schema}
use Rattle.open_file.specs.Stands.{Stands, heights_of}
use Rattle.open_file.proofs.LookLemmas.{IsAsked}
use Rattle.file_changes.proofs.SeenLemmas.{SeenOn}
use Rattle.file_changes.proofs.replacing.replacing.Given as goal

abbrev pub invariant-loop-k : goal.invariant-loop-k
invariant-loop-k g l = record {
  reads : g.P.Pages.shown.Reads l.fn.pages l.pages;
  seen : IsTrue (g.P.Pages.shown.state l.pages).is_honest → (file : File) → Stands l.opened (g.P.Pages.shown.state l.fn.pages).live file
      → (row : Row) → row_of (file_schema l.opened) (prime_of (file_schema l.opened) l.bytes) file ≡ Some row → row.bytes ≡ l.old
      → SeenOn (file_schema l.opened) l.old l.bytes file.rows l.k l.repeated;
  asked : IsAsked (g.P.Pages.shown.state l.fn.pages).asked (g.P.Pages.shown.state l.pages).asked (heights_of l.opened) l.k;
}

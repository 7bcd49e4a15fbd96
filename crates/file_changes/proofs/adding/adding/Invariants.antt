use Rattle.std.proofs.Common.{IsTrue}
use Rattle.indexed_file.specs.File.{File}
use Rattle.open_file.specs.Fields.{file_schema}
use Rattle.open_file.specs.Stands.{Stands, heights_of}
use Rattle.open_file.proofs.LookLemmas.{LooksOn, IsAsked}
use Rattle.file_changes.proofs.adding.adding.Given as goal

abbrev pub invariant-loop-k : goal.invariant-loop-k
invariant-loop-k g l =
    (g.P.Pages.shown.Reads l.fn.pages l.pages)
    × (IsTrue (g.P.Pages.shown.state l.pages).is_honest → (file : File) → Stands l.opened ((g.P.Pages.shown.state l.fn.pages).live) file → LooksOn (file_schema l.opened).keys l.bytes file.rows l.k l.repeated)
    × (IsAsked (g.P.Pages.shown.state l.fn.pages).asked (g.P.Pages.shown.state l.pages).asked (heights_of l.opened) l.k)

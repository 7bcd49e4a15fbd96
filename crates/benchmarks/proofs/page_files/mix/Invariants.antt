use Rattle.std.proofs.Common.{◌≡◌, IsTrue}
use Rattle.page_store.specs.ShelfState.{HasUnit, unit_file}
use Rattle.page_store.specs.Pages.{HoldsPages}
use Rattle.benchmarks.proofs.page_files.mix.Given as goal

abbrev pub invariant-loop-i : goal.invariant-loop-i
invariant-loop-i g l = record {
  unit : HasUnit (g.S.Shelf.state l.shelf) 0;
  named : l.store.unit ≡ 0;
  pages : IsTrue (g.S.Shelf.state l.shelf).is_honest → HoldsPages l.store.pages (unit_file (g.S.Shelf.state l.shelf) 0);
}

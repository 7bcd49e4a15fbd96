use Rattle.std.proofs.Common.{IsTrue}
use Rattle.page_store.specs.ShelfState.{HasUnit, unit_file}
use Rattle.page_store.specs.Pages.{HoldsPages}
use Rattle.test_store.proofs.files.find_pages.Given as goal

abbrev pub invariant-loop-n : goal.invariant-loop-n
invariant-loop-n g l = record {
  unit : HasUnit (g.S.Shelf.state l.shelf) l.store.unit;
  pages : IsTrue (g.S.Shelf.state l.shelf).is_honest → HoldsPages l.store.pages (unit_file (g.S.Shelf.state l.shelf) l.store.unit);
}

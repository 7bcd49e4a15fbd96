use Rattle.page_store.specs.ShelfState.{HasUnit}
use Rattle.test_store.proofs.held_files.perform_both.Given as goal

abbrev pub invariant-loop-step : goal.invariant-loop-step
invariant-loop-step g l = record {
  first : HasUnit (g.S.Shelf.state l.first) 0;
  second : HasUnit (g.S.Shelf.state l.second) 0;
}

use Rattle.page_store.specs.ShelfState.{HasUnit}
use Rattle.test_store.proofs.held_files.perform.Given as goal

abbrev pub invariant-loop-step : goal.invariant-loop-step
invariant-loop-step g l = HasUnit (g.S.Shelf.state l.run) 0

use Rattle.shelf_library.specs.Units.{world_of}
use Rattle.test_library.specs.Ready.{IsReadyConnector}
use Rattle.test_library.proofs.asked_by_verbs.runs.Given as goal

abbrev pub invariant-loop-step : goal.invariant-loop-step
invariant-loop-step g l =
    IsReadyConnector l.connector (world_of (g.S.Shelf.state l.library.shelf) l.library.units.items)

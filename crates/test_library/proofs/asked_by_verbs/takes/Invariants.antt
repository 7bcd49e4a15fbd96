use Rattle.shelf_library.specs.Units.{world_of}
use Rattle.test_library.specs.Ready.{IsReadyConnector}
use Rattle.test_library.proofs.asked_by_verbs.takes.Given as goal

abbrev pub invariant-loop-i : goal.invariant-loop-i
invariant-loop-i g l =
    IsReadyConnector l.connector (world_of (g.S.Shelf.state l.library.shelf) l.library.units.items)

use Rattle.shelf_library.specs.Standing.{IsReady}
use Rattle.test_file_building.proofs.copies.fills.Given as goal

abbrev pub invariant-loop-i : goal.invariant-loop-i
invariant-loop-i g l = IsReady l.held (g.S.Shelf.state l.shelf)

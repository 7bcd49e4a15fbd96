use Rattle.shelf_library.specs.Standing.{IsReady}
use Rattle.test_file_checker.proofs.files.fills.Given as goal

abbrev pub invariant-loop-i : goal.invariant-loop-i
invariant-loop-i g l = IsReady l.held (g.S.Shelf.state l.shelf)

abbrev pub invariant-loop-n : goal.invariant-loop-n
invariant-loop-n g l = IsReady l.held (g.S.Shelf.state l.shelf)

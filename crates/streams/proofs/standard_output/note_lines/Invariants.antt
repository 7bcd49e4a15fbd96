use Rattle.std.proofs.Common.{◌≡◌, ◌++◌, List, ℕ, length}
use Rattle.streams.specs.LineEnds.{AreEndsOf}
use Rattle.streams.specs.FaultLines.{AreFaultsOf}
use Rattle.streams.proofs.standard_output.note_lines.Given as goal

abbrev pub invariant-more : goal.invariant-more
invariant-more l = (done : List ℕ) × (l.bytes ≡ done ++ l.rest)
    × ((before : List ℕ) → AreEndsOf before l.fn.ends → AreEndsOf (before ++ done) l.ends)
    × ((before : List ℕ) → AreFaultsOf before l.fn.faults → AreFaultsOf (before ++ done) l.faults)

abbrev pub decreases-more : goal.decreases-more
decreases-more l = length l.rest

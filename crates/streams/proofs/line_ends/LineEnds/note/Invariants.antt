use Rattle.std.proofs.Common.{List, ℕ, ◌++◌, take}
use Rattle.streams.specs.LineEnds.{AreEndsOf}
use Rattle.streams.proofs.line_ends.LineEnds.note.Given as goal

abbrev pub invariant-loop-byte : goal.invariant-loop-byte
invariant-loop-byte l = (before : List ℕ) → AreEndsOf before l.fn.self → AreEndsOf (before ++ take l.byte-index l.bytes) l.self

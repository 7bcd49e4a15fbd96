use Rattle.std.proofs.Common.{◌≤◌, ◌+◌, ◌^◌, length}
use Rattle.cobol_program.proofs.moves.add_bytes.Given as goal

-- the bytes that are left have a place
abbrev pub invariant-more : goal.invariant-more
invariant-more l = (length l.rest ≤ l.left) × (l.place + l.left ≤ 2 ^ 32)

abbrev pub decreases-more : goal.decreases-more
decreases-more l = length l.rest

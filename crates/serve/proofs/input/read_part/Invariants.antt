use Rattle.std.proofs.Common.{◌≡◌, ◌<◌, [], length}
use Rattle.streams.specs.Source.{source_of, GivesBytes, HasFailed}
use Rattle.serve.proofs.input.read_part.Given as goal

-- no byte came so far, and the last read failed
abbrev pub invariant-loop : goal.invariant-loop
invariant-loop g l = GivesBytes (source_of g.R.Read.remaining l.initial.reader) (source_of g.R.Read.remaining l.reader) []
    × (0 < l.counter → HasFailed (source_of g.R.Read.remaining l.reader)) × (length l.part ≡ length l.initial.part)

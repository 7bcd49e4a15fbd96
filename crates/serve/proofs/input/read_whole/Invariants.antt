use Rattle.streams.specs.Source.{source_of, GivesBytes}
use Rattle.std.proofs.Common.{◌≡◌, ◌≤◌, ◌-◌, length, take}
use Rattle.serve.proofs.input.read_whole.Given as goal

-- so many bytes came
abbrev pub invariant-more : goal.invariant-more
invariant-more g l = GivesBytes (source_of g.R.Read.remaining l.initial.reader) (source_of g.R.Read.remaining l.reader) (take l.at l.room) × (l.at ≤ length l.room) × (length l.room ≡ length l.initial.room)

abbrev pub decreases-more : goal.decreases-more
decreases-more g l = length l.room - l.at

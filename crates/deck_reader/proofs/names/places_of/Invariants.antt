use Rattle.std.proofs.Common.{take}
use Rattle.deck_reader.specs.Places.{ArePlaces}
use Rattle.deck_reader.proofs.names.places_of.Given as goal

abbrev pub invariant-loop-place : goal.invariant-loop-place
invariant-loop-place l = ArePlaces l.places (take l.place l.items)

use Rattle.record_layout.proofs.PlacingLemmas.{HaveLengths}
use Rattle.record_layout.proofs.placing.set_group_lengths.Given as goal

abbrev pub invariant-loop-i : goal.invariant-loop-i
invariant-loop-i l = HaveLengths l.items l.fn.places l.places l.i

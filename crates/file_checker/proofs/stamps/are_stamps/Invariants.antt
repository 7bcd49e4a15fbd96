use Rattle.file_checker.proofs.StampLemmas.{FitFront}
use Rattle.file_checker.proofs.stamps.are_stamps.Given as goal

abbrev pub invariant-loop-part : goal.invariant-loop-part
invariant-loop-part l = FitFront l.next l.parts l.bytes l.part-index l.rest

use Rattle.file_checker.proofs.StampLemmas.{IsBehind}
use Rattle.file_checker.proofs.stamps.stamp_at.Given as goal

abbrev pub invariant-loop-part : goal.invariant-loop-part
invariant-loop-part l = IsBehind l.parts l.bytes l.i l.part-index l.rest

use Rattle.std.proofs.Common.{◌≤◌, length}
use Rattle.record_layout.proofs.PictureLemmas.{SoFar}
use Rattle.record_layout.proofs.picture.total.Given as goal

abbrev pub invariant-groups : goal.invariant-groups
invariant-groups l = SoFar l.numeric l.text l.total l.rest × (l.total ≤ 4001)

abbrev pub decreases-groups : goal.decreases-groups
decreases-groups l = length l.rest

use Rattle.std.proofs.Common.{List, length}
use Rattle.file_control.specs.Description.{LengthItem}
use Rattle.file_control.proofs.FilesLemmas.{ItemsSoFar}
use Rattle.file_control.proofs.files.check_items.Given as goal

abbrev pub invariant-more : goal.invariant-more
invariant-more l = (items : List LengthItem) × ItemsSoFar l.fn.names l.names l.fn.storage l.rest items

abbrev pub decreases-more : goal.decreases-more
decreases-more l = length l.rest

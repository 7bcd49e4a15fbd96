use Rattle.std.proofs.Common.{length}
use Rattle.file_control.proofs.FilesLemmas.{FilesSoFar}
use Rattle.file_control.proofs.files.files_of.Given as goal

abbrev pub invariant-more : goal.invariant-more
invariant-more l = FilesSoFar l.fn.descriptions l.fn.storage l.fn.names l.names l.fn.entries l.rest l.files

abbrev pub decreases-more : goal.decreases-more
decreases-more l = length l.rest

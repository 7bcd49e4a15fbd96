use Rattle.open_file.specs.Fields.{file_schema}
use Rattle.file_changes.proofs.OldLemmas.{AreRead}
use Rattle.file_changes.proofs.old_record.stamps_in.Given as goal

abbrev pub invariant-loop-k : goal.invariant-loop-k
invariant-loop-k l = AreRead (file_schema l.opened).keys l.slot l.k l.at l.stamps.items

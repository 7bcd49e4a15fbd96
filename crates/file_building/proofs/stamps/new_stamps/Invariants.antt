use Rattle.file_building.specs.Stamps.{stamps_from}
use Rattle.file_changes.proofs.ChangedLemmas.{AreWritten}
use Rattle.file_building.proofs.stamps.new_stamps.Given as goal

abbrev pub invariant-loop-j : goal.invariant-loop-j
invariant-loop-j l = AreWritten l.schema.keys (stamps_from l.schema l.stamp) l.j l.stamps.items

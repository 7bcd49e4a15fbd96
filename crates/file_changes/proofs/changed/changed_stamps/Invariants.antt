use Rattle.std.proofs.Common.{drop}
use Rattle.open_file.specs.Fields.{next_stamp_of, file_schema}
use Rattle.file_changes.proofs.ChangedLemmas.{AreWritten, stamps_after}
use Rattle.file_changes.proofs.changed.changed_stamps.Given as goal

abbrev pub invariant-loop-j : goal.invariant-loop-j
invariant-loop-j l = AreWritten (file_schema l.opened).keys (stamps_after (next_stamp_of l.opened) l.old l.new (drop 1 (file_schema l.opened).keys) l.stamps) l.j l.changed.items

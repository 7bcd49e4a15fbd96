use Rattle.std.proofs.Common.{drop}
use Rattle.open_file.specs.Fields.{next_stamp_of, file_schema}
use Rattle.file_changes.proofs.ChangedLemmas.{AreWritten, stamps_of}
use Rattle.file_changes.proofs.stamps.new_stamps.Given as goal

abbrev pub invariant-loop-j : goal.invariant-loop-j
invariant-loop-j l =
    let schema = file_schema l.opened in
    AreWritten schema.keys (stamps_of (next_stamp_of l.opened) (drop 1 schema.keys)) l.j l.stamps.items

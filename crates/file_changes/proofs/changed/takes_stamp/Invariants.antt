use Rattle.std.proofs.Common.{◌≡◌, drop}
use Rattle.std.specs.List.{list_any}
use Rattle.indexed_file.specs.Change.{is_changed}
use Rattle.open_file.specs.Fields.{file_schema}
use Rattle.file_changes.proofs.changed.takes_stamp.Given as goal

abbrev pub invariant-loop-k : goal.invariant-loop-k
invariant-loop-k l =
    let keys = (file_schema l.opened).keys in
    list_any (is_changed l.old l.new) keys ≡ list_any (is_changed l.old l.new) (drop l.k keys)

use Rattle.std.proofs.Common.{◌≡◌, ◌+◌, ◌*◌, ◌≤◌}
use Rattle.open_file.specs.Fields.{alternates_of, file_schema}
use Rattle.file_changes.specs.Replacing.{need_in_indexes}
use Rattle.file_changes.proofs.ChangedLemmas.{need_from}
use Rattle.file_changes.proofs.changed.need_to_change.Given as goal

abbrev pub invariant-loop-j : goal.invariant-loop-j
invariant-loop-j l = record {
  so_far : l.need + need_from (file_schema l.opened) l.old l.new (alternates_of l.opened) l.j ≡ need_in_indexes (file_schema l.opened) l.old l.new (alternates_of l.opened);
  small : l.need ≤ 256 * l.j;
}

use Rattle.std.proofs.Common.{◌≡◌, ◌+◌, ◌≤◌, ◌++◌, length, map, zip, if◌then◌else◌}
use Rattle.indexed_file.specs.Change.{is_changed}
use Rattle.list_library.proofs.list_row.changed_stamps.Given as goal

-- the stamps so far, and those of the keys left, are the stamps of all keys
abbrev pub invariant-more : goal.invariant-more
invariant-more l = record {
  all : l.changed.items ++ map (λ p. if is_changed l.old l.new p.0 then l.stamp else p.1) (zip l.keys_left l.stamps_left)
      ≡ map (λ p. if is_changed l.old l.new p.0 then l.stamp else p.1) (zip l.keys l.stamps);
  few : length l.changed.items + length l.keys_left ≤ 8;
}

abbrev pub decreases-more : goal.decreases-more
decreases-more l = length l.keys_left

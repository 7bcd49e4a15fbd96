use Rattle.std.proofs.Common.{◌≡◌, map, take, if◌then◌else◌}
use Rattle.record_layout.specs.Schema.{has_duplicates}
use Rattle.list_library.proofs.list_row.new_stamps.Given as goal

-- the stamps of the keys so far
abbrev pub invariant-loop-part : goal.invariant-loop-part
invariant-loop-part l = l.stamps.items ≡ map (λ part. if has_duplicates part then l.stamp else 0) (take l.part-index l.keys)

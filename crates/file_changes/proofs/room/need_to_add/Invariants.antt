use Rattle.std.proofs.Common.{◌≡◌, ◌+◌, ◌*◌, ◌≤◌, drop}
use Rattle.key_index.specs.Standing.{prime_height}
use Rattle.open_file.specs.Fields.{alternates_of, prime_index_of}
use Rattle.file_changes.specs.Adding.{index_levels}
use Rattle.file_changes.proofs.room.need_to_add.Given as goal

abbrev pub invariant-loop-index : goal.invariant-loop-index
invariant-loop-index l =
    (l.need + index_levels (drop l.index-index (alternates_of l.opened)) ≡ 1 + ((prime_height (prime_index_of l.opened) + 1) + index_levels (alternates_of l.opened)))
    × (l.need ≤ 257 + 256 * l.index-index)

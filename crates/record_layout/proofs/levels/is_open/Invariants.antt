use Rattle.std.proofs.Common.{◌≡◌, ◌≤◌, length, map, reverse}
use Rattle.record_layout.specs.Layout.{entry_of_item}
use Rattle.record_layout.specs.LayoutFault.{is_open_level}
use Rattle.record_layout.proofs.levels.is_open.Given as goal

abbrev pub invariant-nearest : goal.invariant-nearest
invariant-nearest l =
    (is_open_level (reverse (map entry_of_item l.before)) l.level ≡ is_open_level (reverse (map entry_of_item l.rest)) l.level)
    × (length l.rest ≤ length l.before)

abbrev pub decreases-nearest : goal.decreases-nearest
decreases-nearest l = length l.rest

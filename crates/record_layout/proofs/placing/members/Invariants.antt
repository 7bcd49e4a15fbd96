use Rattle.std.proofs.Common.{◌≡◌, ◌+◌, ◌≤◌, drop, map}
use Rattle.std.specs.List.{sum_by}
use Rattle.record_layout.specs.Layout.{entry_of_item, item_of}
use Rattle.record_layout.specs.Placing.{members_length}
use Rattle.record_layout.proofs.placing.members.Given as goal

abbrev pub invariant-loop-i : goal.invariant-loop-i
invariant-loop-i l =
    (members_length l.level (map entry_of_item l.items) (map item_of l.places) ≡ l.length + members_length l.level (map entry_of_item (drop l.i l.items)) (map item_of (drop l.i l.places)))
    × (l.length + sum_by (λ place. place.field.length) (drop l.i l.places) ≤ 4000)

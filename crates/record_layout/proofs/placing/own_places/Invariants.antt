use Rattle.std.proofs.Common.{drop, map, reverse, take}
use Rattle.record_layout.specs.Layout.{entry_of_item, item_of}
use Rattle.record_layout.specs.NamesInOrder.{HasNamesOf}
use Rattle.record_layout.proofs.PlacingLemmas.{SoFar}
use Rattle.record_layout.proofs.placing.own_places.Given as goal

abbrev pub invariant-loop-i : goal.invariant-loop-i
invariant-loop-i l =
    SoFar (map entry_of_item l.items) (reverse (map entry_of_item (take l.i l.items))) (map entry_of_item (drop l.i l.items)) l.total (map item_of l.places.items)
    × HasNamesOf l.names (reverse (map entry_of_item (take l.i l.items)))

use Rattle.std.proofs.Common.{◌≡◌, take, map}
use Rattle.record_layout.specs.Layout.{item_of, length_of}
use Rattle.record_layout.specs.Area.{blank_area}
use Rattle.record_layout.proofs.layout.Layout.blank.Given as goal

abbrev pub invariant-loop-item : goal.invariant-loop-item
invariant-loop-item l = l.area ≡ blank_area (length_of l.self) (map item_of (take l.item-index l.item-items))

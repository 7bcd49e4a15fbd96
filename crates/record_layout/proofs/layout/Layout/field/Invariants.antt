use Rattle.std.proofs.Common.{◌≡◌, drop, map}
use Rattle.record_layout.specs.Layout.{item_of, field_of}
use Rattle.record_layout.proofs.layout.Layout.field.Given as goal

abbrev pub invariant-loop-item : goal.invariant-loop-item
invariant-loop-item l = field_of (map item_of l.item-items) l.name ≡ field_of (map item_of (drop l.item-index l.item-items)) l.name

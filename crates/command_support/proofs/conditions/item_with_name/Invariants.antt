use Rattle.std.proofs.Common.{◌≡◌, drop, map}
use Rattle.record_layout.specs.Layout.{item_of}
use Rattle.command_support.specs.Conditions.{item_with_name}
use Rattle.command_support.proofs.conditions.item_with_name.Given as goal

-- the items that were passed over have other names
abbrev pub invariant-loop-item : goal.invariant-loop-item
invariant-loop-item l = item_with_name (map item_of l.items) l.name ≡ item_with_name (map item_of (drop l.item-index l.items)) l.name

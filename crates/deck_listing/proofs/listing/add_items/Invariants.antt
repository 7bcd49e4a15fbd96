use Rattle.std.proofs.Common.{◌≡◌, ◌++◌, take, map, flat_map, string_bytes}
use Rattle.record_layout.specs.Layout.{item_of}
use Rattle.deck_listing.specs.Lines.{item_line}
use Rattle.deck_listing.proofs.listing.add_items.Given as goal

abbrev pub invariant-loop-item : goal.invariant-loop-item
invariant-loop-item l = string_bytes l.text ≡ string_bytes l.fn.text ++ flat_map item_line (map item_of (take l.item-index l.items))

use Rattle.std.proofs.Common.{◌≡◌, ◌++◌, map, length}
use Rattle.record_layout.specs.Layout.{item_of}
use Rattle.record_text.specs.Parts.{part_of_column, item_parts}
use Rattle.record_text.proofs.items.item_columns.Given as goal

-- the columns of the items before the rest
abbrev pub invariant-more : goal.invariant-more
invariant-more l = item_parts l.fn.layout ≡ map part_of_column l.columns.items ++ item_parts (map item_of l.rest)

abbrev pub decreases-more : goal.decreases-more
decreases-more l = length l.rest

use Rattle.std.proofs.Common.{take}
use Rattle.std.specs.Prelude.{filter}
use Rattle.tree_node.specs.LeafView.{view_entries}
use Rattle.salvaged_records.specs.Leaves.{is_entry_of}
use Rattle.salvaged_records.specs.Values.{AddsValues}
use Rattle.salvaged_records.proofs.leaves.add_entries.Given as goal

abbrev pub invariant-loop-i : goal.invariant-loop-i
invariant-loop-i l = AddsValues l.fn.entries l.entries (filter (is_entry_of l.fn.values) (take l.i (view_entries l.fn.leaf)))

use Rattle.std.proofs.Common.{◌≡◌, length, map}
use Rattle.record_layout.specs.Layout.{entry_of_item}
use Rattle.file_control.specs.Description.{with_names}
use Rattle.file_control.proofs.data_names.DataNames.add_all.Given as goal

abbrev pub invariant-more : goal.invariant-more
invariant-more l = with_names l.fn.self (map entry_of_item l.fn.items) ≡ with_names l.self (map entry_of_item l.rest)

abbrev pub decreases-more : goal.decreases-more
decreases-more l = length l.rest

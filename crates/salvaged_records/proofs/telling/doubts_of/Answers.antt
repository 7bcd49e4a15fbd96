use Rattle.std.proofs.Common.{rules, ◌≡◌}
use Rattle.std.specs.BTreeSet.{btree_set_len}
use Rattle.salvaged_records.specs.Leaves.{leaf_entries_in}
use Rattle.salvaged_records.specs.Slots.{used_slots_in}
use Rattle.salvaged_records.proofs.PickLemmas.{all_kept}
use Rattle.salvaged_records.proofs.ValueLemmas.{none_in_empty}
use Rattle.salvaged_records.proofs.telling.doubts_of.Goals as goal

pub returns-then-is_empty-clause-apart : goal.returns-then-is_empty-clause-apart
returns-then-is_empty-clause-apart g c = λ list has.
    let none : btree_set_len c.in_ok-doubled.doubled ≡ 0 = search rules in
    all_kept (leaf_entries_in c.args.nodes list) (used_slots_in c.args.shape list) _ (c.in_ok-doubled.ensures.doubled list has) (none_in_empty c.in_ok-doubled.doubled none)

use Rattle.salvaged_records.specs.Leaves.{leaf_entries_in}
use Rattle.salvaged_records.specs.Slots.{used_slots_in}
use Rattle.salvaged_records.proofs.PickLemmas.{told_apart}
use Rattle.salvaged_records.proofs.telling.doubts_by_entries.Goals as goal

pub returns-clause-apart : goal.returns-clause-apart
returns-clause-apart g c = λ list has.
    let then = c.doubled_of.ensures.before list has in
    told_apart (leaf_entries_in c.args.nodes list) (used_slots_in c.args.shape list) _ (c.requires.doubled list (c.leaf_entries.ensures.before list then)) (c.in_ok-entries.ensures.entries list then)
    (c.in_ok-led_twice.ensures.doubled list has)

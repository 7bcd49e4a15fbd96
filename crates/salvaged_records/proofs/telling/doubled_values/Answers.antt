use Rattle.std.proofs.Common.{rules, ◌≡◌}
use Rattle.std.specs.BTreeSet.{btree_set_len}
use Rattle.std.proofs.lemmas.Result.{IfOk-weaker}
use Rattle.salvaged_records.specs.Doubt.{prime_values}
use Rattle.salvaged_records.specs.Slots.{used_slots_in}
use Rattle.salvaged_records.specs.Values.{HasDoubles}
use Rattle.salvaged_records.proofs.PickLemmas.{doubled_among, none_doubled}
use Rattle.salvaged_records.proofs.ValueLemmas.{none_in_empty}
use Rattle.salvaged_records.proofs.telling.doubled_values.Goals as goal

pub returns-then-is_empty-clause-doubled : goal.returns-then-is_empty-clause-doubled
returns-then-is_empty-clause-doubled g c = λ list has.
    let set = c.in_ok-candidates.candidates in
    let none : btree_set_len set ≡ 0 = search rules in
    none_doubled c.args.prime set (used_slots_in c.args.shape list) (c.in_ok-candidates.ensures.found list has) (none_in_empty set none)

pub returns-clause-doubled : goal.returns-clause-doubled
returns-clause-doubled g c = λ list has.
    let slots = used_slots_in c.args.shape list in
    IfOk-weaker c.doubled_of.result _ (λ set. HasDoubles set (prime_values c.args.prime slots))
    (λ set is. doubled_among c.args.prime c.in_ok-candidates.candidates slots set (c.in_ok-candidates.ensures.found list (c.doubled_of.ensures.before list has)) is) (c.doubled_of.ensures.doubled list has)

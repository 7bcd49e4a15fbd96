use Rattle.std.proofs.Common.{◌≡◌, ◌-◌, length, sym, subst, drop, arith, rules}
use Rattle.std.specs.List.Sorted.{IsNonDecreasingBy}
use Rattle.std.proofs.lemmas.Grind.{common_steps}
use Rattle.std.proofs.lemmas.List.Sorted.{IsNonDecreasingBy-from_sort_by_key}
use Rattle.record_layout.proofs.KeysLemmas.{offset_of}
use Rattle.record_layout.proofs.keys.sort_alternates.Goals as goal
use borrow.Rule.Slice.PartMut.{put_mid}

pub returns-clause-rising : goal.returns-clause-rising
returns-clause-rising c =
    let sorted = IsNonDecreasingBy-from_sort_by_key offset_of _ c.sort_unstable_by_key.ensures.sorted (λ a r q k. search rules) in
    let same : drop 1 (put_mid 1 (length c.args.keys.now - 1) c.args.keys.now c.sort_unstable_by_key.new.self) ≡ c.sort_unstable_by_key.new.self = first_of (search rules, grind (arith, common_steps)) in
    subst (IsNonDecreasingBy offset_of) (sym same) sorted

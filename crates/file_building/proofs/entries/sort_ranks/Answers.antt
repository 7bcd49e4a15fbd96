use Rattle.std.proofs.Common.{◌≡◌, ◌+◌, suc, ℕ, List, false, sym, subst, ◌∙◌, arith}
use Rattle.std.specs.List.Sorted.{IsPermutation}
use Rattle.std.proofs.lemmas.List.Sorted.{IsPermutation-map, IsPermutation-sym, length_permutation}
use Rattle.std.specs.Prelude.{slice_index_or}
use Rattle.std.specs.Ordering.{is_lt}
use Rattle.std.proofs.lemmas.Bool.{false≢true}
use Rattle.record_heap.specs.Chain.{IsOneOf}
use Rattle.file_building.specs.declared.ranked.Ranked.{Ranked}
use Rattle.file_building.specs.Ranks.{RanksRise}
use Rattle.file_building.specs.Entries.{entry_in, ranked_entries}
use Rattle.file_building.proofs.UntiedLemmas.{untied_in, sorted_rise, parts_cmp, lower_parts}
use Rattle.file_building.proofs.BuiltLemmas.{each_moved, each_is_one}
use Rattle.file_building.proofs.entries.sort_ranks.Goals as goal

pub returns : goal.returns
returns c =
    let was = c.args.entries.now.items in
    let is = c.sort_unstable.new.self.items in
    let old = ranked_entries was in
    let new = ranked_entries is in
    let perm : IsPermutation old new = IsPermutation-map entry_in was is c.sort_unstable.ensures.permutation in
    record {
      moved = perm;
      rise = λ yes. subst (λ (xs : List Ranked). RanksRise (ranked_entries xs)) c.as_slice.ensures.value (c.rise.ensures.0 yes);
      tied = λ fails untied_old.
          let all = each_moved (IsOneOf new) new old (IsPermutation-sym old new perm) (each_is_one new) in
          let untied = untied_in old new all (sym (length_permutation old new perm)) untied_old in
          let rise = sorted_rise parts_cmp lower_parts is
          (λ j d within. let next : j + 1 ≡ suc j = omega arith in
          subst (λ (n : ℕ). is_lt (parts_cmp (slice_index_or is n d) (slice_index_or is j d)) ≡ false) next (c.sort_unstable.ensures.sorted j d (omega arith) (omega (arith, within)))) untied in
          let here : RanksRise (ranked_entries c.as_slice.result.now) = subst (λ (xs : List Ranked). RanksRise (ranked_entries xs)) (sym c.as_slice.ensures.value) rise in
          false≢true (sym fails ∙ c.rise.ensures.1 here);
    }

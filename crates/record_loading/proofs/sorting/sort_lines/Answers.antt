use Rattle.std.proofs.Common.{rules, ◌≡◌, ap}
use Rattle.std.specs.Ordering.{is_lt}
use Rattle.std.proofs.lemmas.Fn.{always_returns_same}
use Rattle.record_loading.specs.SortedText.{line_cmp, prime_in, stands_before}
use Rattle.record_loading.proofs.SortedTextLemmas.{lines_ranked}
use Rattle.record_loading.proofs.sorting.sort_lines.Goals as goal

pub returns : goal.returns
returns c = record {
  same = c.sort_by.ensures.permutation;
  in_order = c.in_ok-sort_by.ensures.sorted stands_before lines_ranked
      (always_returns_same _ _ _ (λ a r q k. (let is : r ≡ line_cmp (prime_in a.0.now) (prime_in a.1.0.now) = search rules in (ap is_lt is, search rules))));
  stable = c.sort_by.ensures.stable stands_before lines_ranked
      (always_returns_same _ _ _ (λ a r q k. (let is : r ≡ line_cmp (prime_in a.0.now) (prime_in a.1.0.now) = search rules in (ap is_lt is, search rules))));
}

use Rattle.std.proofs.Common.{rules, arith}
use Rattle.std.proofs.lemmas.List.Sorted.{All-permutation, IsNonDecreasingBy-from_sort_by_key}
use Rattle.deck_listing.specs.Told.{TellsOf}
use Rattle.deck_listing.proofs.faults.further_of.Goals as goal

pub returns : goal.returns
returns c = record {
  tell = All-permutation (TellsOf c.args.bytes.now) _ _ c.in_ok-sort_by_key.ensures.permutation c.in_ok-further.ensures.tells;
  few = omega (arith, c.in_ok-sort_by_key.ensures.len, c.in_ok-further.ensures.few);
  rising = IsNonDecreasingBy-from_sort_by_key (λ told. told.line) _ c.in_ok-sort_by_key.ensures.sorted (λ a r q k. search rules);
}

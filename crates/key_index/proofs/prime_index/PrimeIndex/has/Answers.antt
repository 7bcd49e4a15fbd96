use Rattle.std.proofs.Common.{map, rules}
use Rattle.tree_search.specs.Calls.{entry_of}
use Rattle.tree_search.specs.Tail.{TellsPresence}
use Rattle.std.specs.Prelude.{◌≡◌, Bool, find, is_some}
use Rattle.tree_search.proofs.SearchLemmas.{if_ok}
use Rattle.bplus_tree.specs.Fields.{tree_shape}
use Rattle.key_index.specs.Stored.{prime_bytes}
use Rattle.key_index.specs.Entries.{has_prime}
use Rattle.key_index.proofs.PlaceLemmas.{told_there}
use Rattle.key_index.proofs.prime_index.PrimeIndex.has.Goals as goal

pub returns : goal.returns
returns g c = record {
  told = λ honest entries own stands.
      let index = c.args.self.now in
      let value = c.args.value.now in
      if_ok c.has.result (TellsPresence (entry_of (tree_shape index.tree).width value (map prime_bytes entries))) (λ (told : Bool). told ≡ is_some (find (has_prime value) entries))
      (told_there index value entries stands.each) (c.has.ensures.found honest (map prime_bytes entries) own stands.tree);
  reads = search rules;
}

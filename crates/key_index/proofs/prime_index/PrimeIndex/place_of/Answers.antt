use Rattle.std.proofs.Common.{Bool, Some, map, ap, subst, ◌∙◌, true, false, rules}
use Rattle.tree_search.specs.Calls.{entry_of}
use Rattle.tree_search.specs.Tail.{IsTail}
use Rattle.bplus_tree.specs.Fields.{tree_shape}
use Rattle.key_index.specs.Stored.{prime_bytes}
use Rattle.key_index.proofs.LookLemmas.{fails}
use Rattle.key_index.proofs.PlaceLemmas.{told_place}
use Rattle.key_index.proofs.prime_index.PrimeIndex.place_of.Goals as goal

pub returns-in_err-find_tail : goal.returns-in_err-find_tail
returns-in_err-find_tail g c = record {
  found = λ honest entries own stands.
      fails c.from_residual.result _ _ c.from_residual.ensures.1 (c.in_err-find_tail.ensures.found honest (map prime_bytes entries) own stands.tree).no_damage;
  reads = search rules;
}

pub returns-then-branch : goal.returns-then-branch
returns-then-branch g c = record {
  found = λ honest entries own stands.
      let index = c.args.self.now in
      let value = c.args.value.now in
      let told = (c.in_ok-find_tail.ensures.found honest (map prime_bytes entries) own stands.tree).answer in
      let yes = subst (λ (b : Bool). IsTail (tree_shape index.tree).width c.find_tail.new.tail (entry_of (tree_shape index.tree).width value (map prime_bytes entries)) b) c.if-branch.true told in
      record { answer = ap Some c.place_in.ensures ∙ told_place index value entries stands.each c.find_tail.new.tail true yes; no_damage = tt };
  reads = search rules;
}

pub returns : goal.returns
returns g c = record {
  found = λ honest entries own stands.
      let index = c.args.self.now in
      let value = c.args.value.now in
      let told = (c.in_ok-find_tail.ensures.found honest (map prime_bytes entries) own stands.tree).answer in
      let no = subst (λ (b : Bool). IsTail (tree_shape index.tree).width c.find_tail.new.tail (entry_of (tree_shape index.tree).width value (map prime_bytes entries)) b) c.if-branch.false told in
      record { answer = told_place index value entries stands.each c.find_tail.new.tail false no; no_damage = tt };
  reads = search rules;
}

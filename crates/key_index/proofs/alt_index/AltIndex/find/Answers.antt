use Rattle.std.proofs.Common.{◌≡◌, ◌≢◌, Bool, Some, true, false, length, map, sym, ap, subst, ◌∙◌, arith, rules}
use Rattle.tree_search.specs.Calls.{entry_of}
use Rattle.tree_search.specs.Tail.{IsTail}
use Rattle.bplus_tree.specs.Fields.{tree_shape}
use Rattle.key_index.specs.Stored.{alt_bytes}
use Rattle.key_index.proofs.LookLemmas.{fails_filled}
use Rattle.key_index.proofs.EditLemmas.{no_rank}
use Rattle.key_index.proofs.TailLemmas.{told_rank}
use Rattle.key_index.proofs.alt_index.AltIndex.find.Goals as goal

pub returns-then-value-from : goal.returns-then-value-from
returns-then-value-from g c = record {
  found = λ honest entries own stands.
      let index = c.args.self.now in
      let other : length c.args.value.now ≢ index.width = omega arith in
      record { answer = sym (no_rank index.width index.prime c.args.value.now c.args.stamp other entries stands.each); no_damage = tt };
  reads = search rules;
}

pub returns-in_err-find_tail : goal.returns-in_err-find_tail
returns-in_err-find_tail g c = record {
  found = λ honest entries own stands.
      fails_filled c.args.entry.now c.from_residual.result _ _ c.from_residual.ensures.1 (c.in_err-find_tail.ensures.found honest (map alt_bytes entries) own stands.tree).no_damage;
  reads = search rules;
}

pub returns-then-not-branch : goal.returns-then-not-branch
returns-then-not-branch g c = record {
  found = λ honest entries own stands.
      let index = c.args.self.now in
      let long : length c.args.value.now ≡ index.width = omega arith in
      let key = c.as_slice.result.now in
      let told = (c.in_ok-find_tail.ensures.found honest (map alt_bytes entries) own stands.tree).answer in
      let no = subst (λ (b : Bool). IsTail (tree_shape index.tree).width c.find_tail.new.tail (entry_of (tree_shape index.tree).width key (map alt_bytes entries)) b) c.if-not-branch.true told in
      record { answer = told_rank index key c.args.value.now c.args.stamp (c.as_slice.ensures.value ∙ c.rank_key-wanted.ensures) long c.ranges.stamp.fits entries stands.each c.find_tail.new.tail false no; no_damage = tt };
  reads = search rules;
}

pub returns : goal.returns
returns g c = record {
  found = λ honest entries own stands.
      let index = c.args.self.now in
      let long : length c.args.value.now ≡ index.width = omega arith in
      let key = c.as_slice.result.now in
      let told = (c.in_ok-find_tail.ensures.found honest (map alt_bytes entries) own stands.tree).answer in
      let yes = subst (λ (b : Bool). IsTail (tree_shape index.tree).width c.find_tail.new.tail (entry_of (tree_shape index.tree).width key (map alt_bytes entries)) b) c.if-not-branch.false told in
      record { answer = ap Some c.set.ensures ∙ told_rank index key c.args.value.now c.args.stamp (c.as_slice.ensures.value ∙ c.rank_key-wanted.ensures) long c.ranges.stamp.fits entries stands.each c.find_tail.new.tail true yes; no_damage = tt };
  reads = search rules;
}

use Rattle.std.proofs.Common.{◌≡◌, ◌<◌, ◌++◌, Option, length, map, subst, ◌∙◌, arith, rules}
use Rattle.std.specs.Int.{bytes_high_first}
use Rattle.pages.specs.Answer.{IsAnswer}
use Rattle.key_index.specs.Entries.{past_value, from_value, after_rank}
use Rattle.key_index.specs.declared.entry.AltEntry.{AltEntry}
use Rattle.key_index.proofs.ListLemmas.{found_alike}
use Rattle.key_index.proofs.KeyLemmas.{past_rank, from_rank, alt_after}
use Rattle.key_index.specs.Stored.{alt_bytes, IsAltEntry}
use Rattle.key_index.proofs.LookLemmas.{fails, finds}
use Rattle.key_index.proofs.alt_index.AltIndex.first_after.Goals as goal

pub returns-in_err-found : goal.returns-in_err-found
returns-in_err-found g c = record {
  found = λ honest entries own stands.
      fails c.from_residual.result _ _ c.from_residual.ensures.1 (c.in_err-found.ensures.found honest (map alt_bytes entries) own stands.tree).no_damage;
  reads = search rules;
}

pub returns : goal.returns
returns g c = record {
  found = λ honest entries own stands.
      let index = c.args.self.now in
      let whole : length c.args.value.now ≡ index.width = omega arith in
      let is : c.as_slice.result.now ≡ c.args.value.now ++ bytes_high_first 8 c.args.stamp = c.as_slice.ensures.value ∙ c.rank_key-key.ensures in
      finds alt_bytes (IsAltEntry index.width index.prime) c.decode_found.result c.in_ok-found.found c.decode_found.ensures.told _ _
      (alt_after index.prime index.keys c.as_slice.result.now c.args.value.now c.args.stamp is whole c.ranges.stamp.fits)
      entries stands.each
      (c.in_ok-found.ensures.found honest (map alt_bytes entries) own stands.tree).answer;
  reads = search rules;
}

pub returns-then-value-width : goal.returns-then-value-width
returns-then-value-width g c = record {
  found = λ honest entries own stands.
      let index = c.args.self.now in
      let long : index.width < length c.args.value.now = omega arith in
      subst (λ (o : Option AltEntry). IsAnswer c.first_past.result (λ f. f ≡ o))
      (found_alike alt_bytes (IsAltEntry index.width index.prime) (past_value c.args.value.now) (after_rank c.args.value.now c.args.stamp)
      (past_rank index.width index.prime c.args.value.now c.args.stamp long) entries stands.each)
      (c.first_past.ensures.found honest entries own stands);
  reads = search rules;
}

pub returns-then-value-width-2 : goal.returns-then-value-width-2
returns-then-value-width-2 g c = record {
  found = λ honest entries own stands.
      let index = c.args.self.now in
      let short : length c.args.value.now < index.width = omega arith in
      subst (λ (o : Option AltEntry). IsAnswer c.first_from.result (λ f. f ≡ o))
      (found_alike alt_bytes (IsAltEntry index.width index.prime) (from_value c.args.value.now) (after_rank c.args.value.now c.args.stamp)
      (from_rank index.width index.prime c.args.value.now c.args.stamp short) entries stands.each)
      (c.first_from.ensures.found honest entries own stands);
  reads = search rules;
}

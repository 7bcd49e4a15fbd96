use Rattle.std.proofs.Common.{◌≡◌, ◌<◌, ◌≤◌, Option, length, map, subst, arith, rules}
use Rattle.pages.specs.Answer.{IsAnswer}
use Rattle.key_index.specs.Entries.{past_value, from_value}
use Rattle.key_index.specs.declared.entry.AltEntry.{AltEntry}
use Rattle.key_index.proofs.ListLemmas.{found_alike}
use Rattle.key_index.proofs.KeyLemmas.{past_from, alt_from}
use Rattle.key_index.specs.Stored.{alt_bytes, IsAltEntry}
use Rattle.key_index.proofs.LookLemmas.{fails, finds}
use Rattle.key_index.proofs.alt_index.AltIndex.first_from.Goals as goal

pub returns-in_err-found : goal.returns-in_err-found
returns-in_err-found g c = record {
  found = λ honest entries own stands.
      fails c.from_residual.result _ _ c.from_residual.ensures.1 (c.in_err-found.ensures.found honest (map alt_bytes entries) own stands.tree).no_damage;
  reads = search rules;
}

pub returns : goal.returns
returns g c = record {
  found = λ honest entries own stands.
      let index = c.args.self.now in
      let short : length c.args.value.now ≤ index.width = omega arith in
      finds alt_bytes (IsAltEntry index.width index.prime) c.decode_found.result c.in_ok-found.found c.decode_found.ensures.told _ _
      (alt_from index.prime index.keys c.args.value.now short) entries stands.each
      (c.in_ok-found.ensures.found honest (map alt_bytes entries) own stands.tree).answer;
  reads = search rules;
}

pub returns-then-value-from : goal.returns-then-value-from
returns-then-value-from g c = record {
  found = λ honest entries own stands.
      let index = c.args.self.now in
      let long : index.width < length c.args.value.now = omega arith in
      subst (λ (o : Option AltEntry). IsAnswer c.first_past.result (λ f. f ≡ o))
      (found_alike alt_bytes (IsAltEntry index.width index.prime) (past_value c.args.value.now) (from_value c.args.value.now) (past_from index.width index.prime c.args.value.now long) entries stands.each)
      (c.first_past.ensures.found honest entries own stands);
  reads = search rules;
}

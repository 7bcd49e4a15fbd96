use Rattle.std.proofs.Common.{map, ◌∙◌, ℕ, ap, ◌+◌, rules}
use Rattle.key_index.specs.Keys.{greatest_key}
use Rattle.key_index.specs.Stored.{alt_bytes, IsAltEntry}
use Rattle.key_index.proofs.LookLemmas.{fails, finds}
use Rattle.key_index.proofs.KeyLemmas.{alt_past}
use Rattle.key_index.proofs.alt_index.AltIndex.first_past.Goals as goal

pub returns-in_err-found : goal.returns-in_err-found
returns-in_err-found g c = record {
  found = λ honest entries own stands.
      fails c.from_residual.result _ _ c.from_residual.ensures.1 (c.in_err-found.ensures.found honest (map alt_bytes entries) own stands.tree).no_damage;
  reads = search rules;
}

pub returns : goal.returns
returns g c = record {
  found = λ honest entries own stands.
      let index = c.args.self.now in
      finds alt_bytes (IsAltEntry index.width index.prime) c.decode_found.result c.in_ok-found.found c.decode_found.ensures.told _ _
      (alt_past index.prime index.keys c.as_slice.result.now c.args.value.now
      (c.as_slice.ensures.value ∙ c.greatest_key-key.ensures
      ∙ ap (λ (n : ℕ). greatest_key n (n + 8) c.args.value.now) c.from-width.ensures)) entries stands.each
      (c.in_ok-found.ensures.found honest (map alt_bytes entries) own stands.tree).answer;
  reads = search rules;
}

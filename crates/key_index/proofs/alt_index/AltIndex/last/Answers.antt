use Rattle.std.proofs.Common.{map, rules}
use Rattle.key_index.specs.Stored.{alt_bytes, IsAltEntry}
use Rattle.key_index.proofs.LookLemmas.{fails, finds_last}
use Rattle.key_index.proofs.alt_index.AltIndex.last.Goals as goal

pub returns-in_err-found : goal.returns-in_err-found
returns-in_err-found g c = record {
  found = λ honest entries own stands.
      fails c.from_residual.result _ _ c.from_residual.ensures.1 (c.in_err-found.ensures.found honest (map alt_bytes entries) own stands.tree).no_damage;
  reads = search rules;
}

pub returns : goal.returns
returns g c = record {
  found = λ honest entries own stands.
      let index = c.args.self.now in
      finds_last alt_bytes (IsAltEntry index.width index.prime) c.decode_found.result c.in_ok-found.found c.decode_found.ensures.told entries stands.each
      (c.in_ok-found.ensures.found honest (map alt_bytes entries) own stands.tree).answer;
  reads = search rules;
}

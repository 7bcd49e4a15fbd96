use Rattle.std.proofs.Common.{◌≢◌, ℕ, List, length, Some, sym, ap, ◌∙◌, arith, rules}
use Rattle.key_index.specs.declared.entry.PrimeEntry.{PrimeEntry}
use Rattle.key_index.proofs.LookLemmas.{fails}
use Rattle.key_index.proofs.PlaceLemmas.{no_prime, entry_found}
use Rattle.key_index.proofs.prime_index.PrimeIndex.find.Goals as goal

pub returns-then-value-from : goal.returns-then-value-from
returns-then-value-from g c = record {
  found = λ honest entries own stands.
      let index = c.args.self.now in
      let other : length c.args.value.now ≢ index.width = omega arith in
      record { answer = sym (no_prime index.width c.args.value.now other entries stands.each); no_damage = tt };
  reads = search rules;
}

pub returns-in_err-place : goal.returns-in_err-place
returns-in_err-place g c = record {
  found = λ honest entries own stands.
      fails c.from_residual.result _ _ c.from_residual.ensures.1 (c.in_err-place.ensures.found honest entries own stands).no_damage;
  reads = search rules;
}

pub returns-in-Some : goal.returns-in-Some
returns-in-Some g c = record {
  found = λ honest entries own stands.
      let v = c.args.value.now in
      let place = (rw c.in-Some.is at c.in_ok-place.ensures.found honest entries own stands).answer in
      let told_as : List ℕ → PrimeEntry = λ items. record { value = record { items = items }; place = c.in-Some.place } in
      record { answer = ap (λ (items : List ℕ). Some (told_as items)) c.key_of.ensures ∙ entry_found v entries (Some c.in-Some.place) place; no_damage = tt };
  reads = search rules;
}

pub returns-in-None : goal.returns-in-None
returns-in-None g c = record {
  found = λ honest entries own stands.
      let place = (rw c.in-None.is at c.in_ok-place.ensures.found honest entries own stands).answer in
      record { answer = entry_found c.args.value.now entries _ place; no_damage = tt };
  reads = search rules;
}

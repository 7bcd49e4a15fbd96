use Rattle.std.proofs.Common.{◌≡◌, ◌≢◌, length, map, Option, Result, sym, subst, ◌∙◌, arith, rules}
use Rattle.io_state.specs.declared.fault.Fault.{Fault}
use Rattle.pages.specs.Answer.{IsAnswer}
use Rattle.key_index.specs.Stored.{alt_bytes}
use Rattle.key_index.specs.Calls.{IsAltFirst}
use Rattle.key_index.specs.declared.entry.AltFirst.{AltFirst}
use Rattle.key_index.proofs.LookLemmas.{fails_filled}
use Rattle.key_index.proofs.FirstLemmas.{no_value, first_none, the_first}
use Rattle.key_index.proofs.alt_index.AltIndex.first_of.Goals as goal

pub returns-then-value-from : goal.returns-then-value-from
returns-then-value-from g c = record {
  found = λ honest entries own stands.
      let index = c.args.self.now in
      let other : length c.args.value.now ≢ index.width = omega arith in
      record { answer = no_value index.width index.prime c.args.value.now other entries stands.each; no_damage = tt };
  reads = search rules;
}

pub returns-in_err-found : goal.returns-in_err-found
returns-in_err-found g c = record {
  found = λ honest entries own stands.
      fails_filled c.args.first.now c.from_residual.result _ _ c.from_residual.ensures.1 (c.in_err-found.ensures.found honest (map alt_bytes entries) own stands.tree).no_damage;
  reads = search rules;
}

pub returns-in-None : goal.returns-in-None
returns-in-None g c = record {
  found = λ honest entries own stands.
      let index = c.args.self.now in
      let v = c.args.value.now in
      let long : length v ≡ index.width = omega arith in
      let first = rw c.in-None.is at (c.in_ok-found.ensures.found honest (map alt_bytes entries) own stands.tree).answer in
      record {
        answer = first_none index v c.as_slice.result.now c.as_slice-2.result.now long (c.as_slice.ensures.value ∙ c.rank_key-least.ensures) (c.as_slice-2.ensures.value ∙ c.rank_key-greatest.ensures) entries stands.each first;
        no_damage = tt;
      };
  reads = search rules;
}

pub returns-in-Some : goal.returns-in-Some
returns-in-Some g c = record {
  found = λ honest entries own stands.
      let index = c.args.self.now in
      let v = c.args.value.now in
      let long : length v ≡ index.width = omega arith in
      let first = rw c.in-Some.is at (c.in_ok-found.ensures.found honest (map alt_bytes entries) own stands.tree).answer in
      let the = the_first index v c.as_slice.result.now c.as_slice-2.result.now long (c.as_slice.ensures.value ∙ c.rank_key-least.ensures) (c.as_slice-2.ensures.value ∙ c.rank_key-greatest.ensures) entries stands.each c.in-Some.field-0 first in
      subst (λ (r : Result (Option AltFirst) Fault). IsAnswer r (IsAltFirst v entries)) (sym (c.fill_first.ensures.told the.entry the.fits the.bytes)) (record { answer = the.is_first; no_damage = tt });
  reads = search rules;
}

use Rattle.std.proofs.Common.{ℕ, map, Option, refl, subst, rules}
use Rattle.arrayvec.specs.ArrayVec.{ArrayVec}
use Rattle.bplus_tree.specs.Standing.{HasRemoved}
use Rattle.key_index.specs.Stored.{prime_bytes}
use Rattle.key_index.proofs.LookLemmas.{fails}
use Rattle.key_index.proofs.EditLemmas.{prime_removed, prime_absent}
use Rattle.key_index.proofs.prime_index.PrimeIndex.remove.Goals as goal

pub returns-in_err-remove : goal.returns-in_err-remove
returns-in_err-remove g c = record {
  removed = λ honest sound entries own stands.
      fails c.from_residual.result _ _ c.from_residual.ensures.1 (c.in_err-remove.ensures.removed honest sound (map prime_bytes entries) own stands.tree).no_damage;
  grows = search rules;
  spends = search rules;
  cause = search rules;
  goes = search rules;
}

pub returns-in-Some : goal.returns-in-Some
returns-in-Some g c = record {
  removed = λ honest sound entries own stands.
      let before = (g.P.Pages.shown.state c.args.pages.now).live in
      let after = (g.P.Pages.shown.state c.remove.new.pages).live in
      let old = c.args.self.now in
      let a = (c.in_ok-remove.ensures.removed honest sound (map prime_bytes entries) own stands.tree).answer in
      let h = subst (λ (o : Option (ArrayVec ℕ)). HasRemoved before after old.tree c.remove.new.self c.args.value.now (map prime_bytes entries) own o) c.in-Some.is a.0 in
      record { answer = (prime_removed before after old entries own stands.each c.args.value.now _ c.in-Some.field-0 refl h, a.1); no_damage = tt };
  grows = search rules;
  spends = search rules;
  cause = search rules;
  goes = search rules;
}

pub returns-in-None : goal.returns-in-None
returns-in-None g c = record {
  removed = λ honest sound entries own stands.
      let before = (g.P.Pages.shown.state c.args.pages.now).live in
      let after = (g.P.Pages.shown.state c.remove.new.pages).live in
      let old = c.args.self.now in
      let a = (c.in_ok-remove.ensures.removed honest sound (map prime_bytes entries) own stands.tree).answer in
      let h = subst (λ (o : Option (ArrayVec ℕ)). HasRemoved before after old.tree c.remove.new.self c.args.value.now (map prime_bytes entries) own o) c.in-None.is a.0 in
      record { answer = (prime_absent before after old entries own stands.each c.args.value.now c.remove.new.self h, a.1); no_damage = tt };
  grows = search rules;
  spends = search rules;
  cause = search rules;
  goes = search rules;
}

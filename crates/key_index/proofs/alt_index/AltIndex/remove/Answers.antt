use Rattle.std.proofs.Common.{◌≡◌, ◌≢◌, ℕ, ◌<◌, ◌^◌, ◌++◌, length, map, Option, refl, subst, ◌∙◌, arith, rules}
use Rattle.std.specs.Int.{bytes_high_first}
use Rattle.arrayvec.specs.ArrayVec.{ArrayVec}
use Rattle.bplus_tree.specs.Standing.{HasRemoved}
use Rattle.key_index.specs.Stored.{alt_bytes}
use Rattle.key_index.proofs.LookLemmas.{fails}
use Rattle.key_index.proofs.EditLemmas.{alt_removed, alt_absent, no_rank}
use Rattle.key_index.proofs.alt_index.AltIndex.remove.Goals as goal

pub returns-in_err-remove : goal.returns-in_err-remove
returns-in_err-remove g c = record {
  removed = λ honest sound entries own stands.
      fails c.from_residual.result _ _ c.from_residual.ensures.1 (c.in_err-remove.ensures.removed honest sound (map alt_bytes entries) own stands.tree).no_damage;
  grows = search rules;
  spends = search rules;
  cause = search rules;
  goes = search rules;
}

pub returns-in-Some : goal.returns-in-Some
returns-in-Some g c = record {
  removed = λ honest sound entries own stands.
      let before = (g.P.Pages.shown.state c.args.pages.now).live in
      let after = (g.P.Pages.shown.state c.remove.new.pages).live in
      let old = c.args.self.now in
      let is : c.as_slice.result.now ≡ c.args.value.now ++ bytes_high_first 8 c.args.stamp = c.as_slice.ensures.value ∙ c.rank_key-rank.ensures in
      let long : length c.args.value.now ≡ old.width = omega arith in
      let small : c.args.stamp < 2 ^ 64 = c.ranges.stamp.fits in
      let a = (c.in_ok-remove.ensures.removed honest sound (map alt_bytes entries) own stands.tree).answer in
      let h = subst (λ (o : Option (ArrayVec ℕ)). HasRemoved before after old.tree c.remove.new.self c.as_slice.result.now (map alt_bytes entries) own o) c.in-Some.is a.0 in
      record { answer = (alt_removed before after old entries own stands.each c.as_slice.result.now c.args.value.now c.args.stamp is long small _ c.in-Some.field-0 (record { width_is = refl; prime_is = refl }) h, a.1); no_damage = tt };
  grows = search rules;
  spends = search rules;
  cause = search rules;
  goes = search rules;
}

pub returns-in-None : goal.returns-in-None
returns-in-None g c = record {
  removed = λ honest sound entries own stands.
      let before = (g.P.Pages.shown.state c.args.pages.now).live in
      let after = (g.P.Pages.shown.state c.remove.new.pages).live in
      let old = c.args.self.now in
      let is : c.as_slice.result.now ≡ c.args.value.now ++ bytes_high_first 8 c.args.stamp = c.as_slice.ensures.value ∙ c.rank_key-rank.ensures in
      let long : length c.args.value.now ≡ old.width = omega arith in
      let small : c.args.stamp < 2 ^ 64 = c.ranges.stamp.fits in
      let a = (c.in_ok-remove.ensures.removed honest sound (map alt_bytes entries) own stands.tree).answer in
      let h = subst (λ (o : Option (ArrayVec ℕ)). HasRemoved before after old.tree c.remove.new.self c.as_slice.result.now (map alt_bytes entries) own o) c.in-None.is a.0 in
      record { answer = (alt_absent before after old entries own stands.each c.as_slice.result.now c.args.value.now c.args.stamp is long small c.remove.new.self h, a.1); no_damage = tt };
  grows = search rules;
  spends = search rules;
  cause = search rules;
  goes = search rules;
}

pub returns-then-value-from : goal.returns-then-value-from
returns-then-value-from g c = record {
  removed = λ honest sound entries own stands.
      let old = c.args.self.now in
      let other : length c.args.value.now ≢ old.width = omega arith in
      record { answer = ((no_rank old.width old.prime c.args.value.now c.args.stamp other entries stands.each, refl, refl), sound); no_damage = tt };
  grows = search rules;
  spends = search rules;
  cause = search rules;
  goes = search rules;
}

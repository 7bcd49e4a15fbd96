use Rattle.std.proofs.Common.{◌≡◌, ℕ, List, map, Option, Some, None, refl, subst, ◌∙◌, rules}
use Rattle.arrayvec.specs.ArrayVec.{ArrayVec}
use Rattle.bplus_tree.specs.Standing.{HasInserted}
use Rattle.key_index.specs.Stored.{alt_bytes, IsAltEntry}
use Rattle.key_index.specs.declared.entry.AltEntry.{AltEntry}
use Rattle.key_index.proofs.LookLemmas.{fails}
use Rattle.key_index.proofs.EditLemmas.{each_byte, alt_added, alt_there}
use Rattle.key_index.proofs.alt_index.AltIndex.add.Goals as goal

pub returns-in_err-insert : goal.returns-in_err-insert
returns-in_err-insert g c = record {
  added = λ honest sound entries own stands.
      fails c.from_residual.result _ _ c.from_residual.ensures.1 (c.in_err-insert.ensures.inserted honest sound (map alt_bytes entries) own stands.tree).no_damage;
  deep = search rules;
  grows = search rules;
  spends = search rules;
  cause = search rules;
  goes = search rules;
}

pub returns-in-None : goal.returns-in-None
returns-in-None g c = record {
  added = λ honest sound entries own stands.
      let before = (g.P.Pages.shown.state c.args.pages.now).live in
      let after = (g.P.Pages.shown.state c.insert.new.pages).live in
      let old = c.args.self.now in
      let e : AltEntry = record { value = record { items = c.args.value.now }; stamp = c.args.stamp; prime = record { items = c.args.prime.now } } in
      let fits : IsAltEntry old.width old.prime e =
      record { long = c.requires.value; bytes = each_byte c.args.value.now c.type_inv.value; stamp = c.ranges.stamp.fits; prime_long = c.requires.prime } in
      let bytes : c.as_slice.result.now ≡ alt_bytes e = c.as_slice.ensures.value ∙ c.bytes-entry.ensures in
      let a = (c.in_ok-insert.ensures.inserted honest sound (map alt_bytes entries) own stands.tree).answer in
      let h = subst (λ (o : Option (ArrayVec ℕ)). HasInserted before after old.tree c.insert.new.self c.as_slice.result.now (map alt_bytes entries) own o) c.in-None.is a.0 in
      let k = subst (λ (b : List ℕ). HasInserted before after old.tree c.insert.new.self b (map alt_bytes entries) own None) bytes h in
      record { answer = (alt_added before after old entries own stands.each e fits _ (record { width_is = refl; prime_is = refl }) k, a.1); no_damage = tt };
  deep = search rules;
  grows = search rules;
  spends = search rules;
  cause = search rules;
  goes = search rules;
}

pub returns-in-Some : goal.returns-in-Some
returns-in-Some g c = record {
  added = λ honest sound entries own stands.
      let before = (g.P.Pages.shown.state c.args.pages.now).live in
      let after = (g.P.Pages.shown.state c.insert.new.pages).live in
      let old = c.args.self.now in
      let e : AltEntry = record { value = record { items = c.args.value.now }; stamp = c.args.stamp; prime = record { items = c.args.prime.now } } in
      let fits : IsAltEntry old.width old.prime e =
      record { long = c.requires.value; bytes = each_byte c.args.value.now c.type_inv.value; stamp = c.ranges.stamp.fits; prime_long = c.requires.prime } in
      let bytes : c.as_slice.result.now ≡ alt_bytes e = c.as_slice.ensures.value ∙ c.bytes-entry.ensures in
      let a = (c.in_ok-insert.ensures.inserted honest sound (map alt_bytes entries) own stands.tree).answer in
      let h = subst (λ (o : Option (ArrayVec ℕ)). HasInserted before after old.tree c.insert.new.self c.as_slice.result.now (map alt_bytes entries) own o) c.in-Some.is a.0 in
      let k = subst (λ (b : List ℕ). HasInserted before after old.tree c.insert.new.self b (map alt_bytes entries) own (Some c.in-Some.field-0)) bytes h in
      record { answer = (alt_there before after old entries own stands.each e fits c.insert.new.self c.in-Some.field-0 k, a.1); no_damage = tt };
  deep = search rules;
  grows = search rules;
  spends = search rules;
  cause = search rules;
  goes = search rules;
}

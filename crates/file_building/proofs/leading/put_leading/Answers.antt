use Rattle.std.proofs.Common.{◌≡◌, ℕ, [], ◌∷◌, ◌++◌, map, take, ap, subst, ◌∙◌}
use Rattle.key_index.specs.declared.entry.PrimeEntry.{PrimeEntry}
use Rattle.key_index.specs.Stored.{prime_entry_in, entry_at}
use Rattle.key_index.proofs.StoredLemmas.{prime_back}
use Rattle.key_index.proofs.KeyLemmas.{prime_key}
use Rattle.tree_building.specs.IndexBuilding.{PrimeBuildsOn}
use Rattle.file_building.specs.NewPlaces.{new_place, moved_entry}
use Rattle.file_building.proofs.StepLemmas.{StepLaws, index_cause}
use Rattle.file_building.proofs.LeadLemmas.{led_since, moved_more}
use Rattle.file_building.proofs.leading.put_leading.Goals as goal

pub returns-in-Ok : goal.returns-in-Ok
returns-in-Ok g c =
    let index = c.args.index.now in
    let places = c.args.places.now in
    let bytes = c.args.bytes.now in
    let before = (g.Q.Pages.shown.state c.args.to.now).live in
    let after = (g.Q.Pages.shown.state c.push.new.pages).live in
    let old = c.args.builder.now in
    let new = c.push.new.self in
    record {
      put = λ honest sound start done e on fits known are.
          let led = map (moved_entry places) done in
          let read_is : c.read.result ≡ e = c.read.ensures ∙ ap (λ (w : ℕ). prime_entry_in w bytes) c.from-width.ensures ∙ ap (prime_entry_in index.width) are ∙ prime_back index.width e fits in
          let place_is : c.of-place.result ≡ new_place places e.place = c.of-place.ensures ∙ ap (λ (x : PrimeEntry). new_place places x.place) read_is in
          let value_is : take c.from-width.result bytes ≡ e.value.items = ap (λ (w : ℕ). take w bytes) c.from-width.ensures ∙ ap (take index.width) are ∙ prime_key index.width e fits in
          let entry_is : entry_at (take c.from-width.result bytes) c.of-place.result ≡ moved_entry places e = λ i. entry_at (value_is i) (place_is i) in
          let pushes = c.in-Ok.ensures.pushes honest sound in
          let more = subst (λ (x : PrimeEntry). PrimeBuildsOn before after new on.own_now (led ++ x ∷ [])) entry_is (pushes.pushed led on.own_now on.building).answer in
          record {
            answer = (subst (PrimeBuildsOn start after new []) (moved_more places done e) (led_since start before after old new led (led ++ moved_entry places e ∷ []) on more), pushes.sound);
            no_damage = tt;
          };
      width_is = c.push.ensures.width;
      cause = tt;
      step = c.push.ensures.takes.step;
    }

pub returns-in-Err : goal.returns-in-Err
returns-in-Err g c =
    let laws : StepLaws g.Q.Pages.shown = record { nothing = g.met.Q.Pages.writes_nothing; on = g.met.Q.Pages.writes_on; failed_before = g.met.Q.Pages.failed_before; failed_after = g.met.Q.Pages.failed_after } in
    let takes = c.in-Err.ensures.takes in
    record {
      put = λ honest sound start done e on fits known are. record {
        answer = tt;
        no_damage = ((c.in-Err.ensures.pushes honest sound).pushed (map (moved_entry c.args.places.now) done) on.own_now on.building).no_damage;
      };
      width_is = c.push.ensures.width;
      cause = index_cause g.Q.Pages.shown laws c.args.to.now c.push.new.pages takes.step c.in-Err.fault takes.cause;
      step = takes.step;
    }

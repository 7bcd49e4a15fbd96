use Rattle.std.proofs.Common.{◌≡◌, ℕ, [], ◌∷◌, ◌++◌, length, ap, sym, subst, ◌∙◌}
use Rattle.key_index.specs.declared.entry.AltEntry.{AltEntry}
use Rattle.key_index.specs.Stored.{alt_entry_in}
use Rattle.key_index.proofs.StoredLemmas.{alt_back}
use Rattle.tree_building.specs.IndexBuilding.{AltBuildsOn}
use Rattle.file_building.proofs.StepLemmas.{StepLaws, index_cause}
use Rattle.file_building.proofs.CopiedEntryLemmas.{built_since, value_long, prime_long}
use Rattle.file_building.proofs.copied_entries.put_entry.Goals as goal

pub push-requires : goal.push-requires
push-requires g c =
    let index = c.args.index.now in
    let bytes = c.args.bytes.now in
    let is : c.read-entry.result ≡ alt_entry_in index.width bytes = c.read-entry.ensures ∙ ap (λ (w : ℕ). alt_entry_in w bytes) c.from.ensures in
    record {
      ready = c.requires.target.ready;
      changing = c.requires.target.open;
      value = ap (λ (e : AltEntry). length e.value.items) is ∙ value_long index.width index.prime bytes c.requires.long ∙ sym c.requires.builder_is.width_is;
      prime = ap (λ (e : AltEntry). length e.prime.items) is ∙ prime_long index.width index.prime bytes c.requires.long ∙ sym c.requires.builder_is.prime_is;
    }

pub returns-in-Ok : goal.returns-in-Ok
returns-in-Ok g c =
    let index = c.args.index.now in
    let bytes = c.args.bytes.now in
    let before = (g.Q.Pages.shown.state c.args.to.now).live in
    let after = (g.Q.Pages.shown.state c.push.new.pages).live in
    let new = c.push.new.self in
    let is : c.read-entry.result ≡ alt_entry_in index.width bytes = c.read-entry.ensures ∙ ap (λ (w : ℕ). alt_entry_in w bytes) c.from.ensures in
    let keeps = c.push.ensures.keeps in
    let had = c.requires.builder_is in
    record {
      put = λ honest sound start done e on fits are.
          let same : c.read-entry.result ≡ e = is ∙ ap (alt_entry_in index.width) are ∙ alt_back index.width index.prime e fits in
          let pushes = c.in-Ok.ensures.pushes honest sound in
          let more = (pushes.pushed done on.own_now on.building).answer in
          record {
            answer = (
              built_since start before after c.args.builder.now new done (done ++ e ∷ []) on (subst (λ (x : AltEntry). AltBuildsOn before after new on.own_now (done ++ x ∷ [])) same more),
              pushes.sound,
            );
            no_damage = tt;
          };
      builder_is = record { key_is = keeps.key_is ∙ had.key_is; width_is = keeps.width_is ∙ had.width_is; prime_is = keeps.prime_is ∙ had.prime_is };
      cause = tt;
      step = c.push.ensures.takes.step;
    }

pub returns-in-Err : goal.returns-in-Err
returns-in-Err g c =
    let laws : StepLaws g.Q.Pages.shown = record { nothing = g.met.Q.Pages.writes_nothing; on = g.met.Q.Pages.writes_on; failed_before = g.met.Q.Pages.failed_before; failed_after = g.met.Q.Pages.failed_after } in
    let keeps = c.push.ensures.keeps in
    let had = c.requires.builder_is in
    let takes = c.in-Err.ensures.takes in
    record {
      put = λ honest sound start done e on fits are. record {
        answer = tt;
        no_damage = ((c.in-Err.ensures.pushes honest sound).pushed done on.own_now on.building).no_damage;
      };
      builder_is = record { key_is = keeps.key_is ∙ had.key_is; width_is = keeps.width_is ∙ had.width_is; prime_is = keeps.prime_is ∙ had.prime_is };
      cause = index_cause g.Q.Pages.shown laws c.args.to.now c.push.new.pages takes.step c.in-Err.fault takes.cause;
      step = takes.step;
    }

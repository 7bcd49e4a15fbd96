use Rattle.std.proofs.Common.{◌≡◌, ◌+◌, ◌≤◌, List, [], ◌∷◌, ◌++◌, length, take, ap, sym, subst, ◌∙◌, arith, append_assoc}
use Rattle.tree_search.proofs.AnswerLemmas.{fails}
use Rattle.key_index.specs.declared.entry.AltEntry.{AltEntry}
use Rattle.tree_building.specs.IndexBuilding.{AltBuildsOn}
use Rattle.file_building.specs.declared.ranked.Ranked.{Ranked}
use Rattle.file_building.specs.Entries.{entry_in, ranked_entries}
use Rattle.file_building.proofs.StepLemmas.{StepLaws, index_cause, cause_since, handed_on}
use Rattle.file_building.proofs.EntryLemmas.{fit_at, next_entry, all_entries}
use Rattle.file_building.proofs.BuiltLemmas.{built_since}
use Rattle.file_building.proofs.alternates.push_all.Goals as goal

pub set-requires-clause-value : goal.set-requires-clause-value
set-requires-clause-value g c =
    let old = c.args.builder.now in
    let fit = fit_at old.width old.prime c.args.entries.now c.loop-ranked.ranked-index c.ranked-item.result c.loop-ranked-test.true c.requires.fit in
    let value = ap (λ (x : Ranked). length x.value.now) c.ranked-item.is in
    omega (arith, fit.0, value, old.wide)

pub set-requires-clause-prime : goal.set-requires-clause-prime
set-requires-clause-prime g c =
    let old = c.args.builder.now in
    let fit = fit_at old.width old.prime c.args.entries.now c.loop-ranked.ranked-index c.ranked-item.result c.loop-ranked-test.true c.requires.fit in
    let prime = ap (λ (x : Ranked). length x.prime.now) c.ranked-item.is in
    omega (arith, fit.1, prime, old.narrow)

pub push-requires : goal.push-requires
push-requires g c =
    let old = c.args.builder.now in
    let inv = c.loop-ranked.invariant in
    let fit = fit_at old.width old.prime c.args.entries.now c.loop-ranked.ranked-index c.ranked-item.result c.loop-ranked-test.true c.requires.fit in
    record {
      ready = g.met.P.Pages.writes_ready c.args.pages.now c.loop-ranked.pages inv.writes c.requires.target.ready;
      changing = g.met.P.Pages.writes_changing c.args.pages.now c.loop-ranked.pages inv.writes c.requires.target.open;
      value = ap (λ (e : AltEntry). length e.value.items) c.set.ensures ∙ ap (λ (x : Ranked). length x.value.now) c.ranked-item.is ∙ fit.0 ∙ sym inv.same.width_is;
      prime = ap (λ (e : AltEntry). length e.prime.items) c.set.ensures ∙ ap (λ (x : Ranked). length x.prime.now) c.ranked-item.is ∙ fit.1 ∙ sym inv.same.prime_is;
    }

pub returns-in_err-push-clause-pushes : goal.returns-in_err-push-clause-pushes
returns-in_err-push-clause-pushes g c =
    let inv = c.loop-ranked.invariant in
    let entries = ranked_entries c.args.entries.now in
    record {
      pushed = λ honest sound start done on.
          let hb = g.met.P.Pages.writes_honestly c.loop-ranked.pages c.push.new.pages c.push.ensures.takes.step honest in
          let had = inv.pushed hb sound start done on in
          fails _ _ _ c.from_residual.ensures.1 ((c.in_err-push.ensures.pushes honest had.1).pushed (done ++ take c.loop-ranked.ranked-index entries) had.0.own_now had.0.building).no_damage;
    }

pub returns-in_err-push-clause-keeps : goal.returns-in_err-push-clause-keeps
returns-in_err-push-clause-keeps g c =
    let laws : StepLaws g.P.Pages.shown = record { nothing = g.met.P.Pages.writes_nothing; on = g.met.P.Pages.writes_on; failed_before = g.met.P.Pages.failed_before; failed_after = g.met.P.Pages.failed_after } in
    let inv = c.loop-ranked.invariant in
    let takes = c.in_err-push.ensures.takes in
    let start = c.args.pages.now in
    let mid = c.loop-ranked.pages in
    let late = c.push.new.pages in
    record {
      cause = handed_on _ _ _ c.from_residual.ensures.1 (cause_since g.P.Pages.shown laws start mid late inv.writes _ (index_cause g.P.Pages.shown laws mid late takes.step _ takes.cause));
      step = g.met.P.Pages.writes_on start mid late inv.writes takes.step;
    }

pub loop-ranked-preserved : goal.loop-ranked-preserved
loop-ranked-preserved g c =
    let inv = c.loop-ranked.invariant in
    let entries = ranked_entries c.args.entries.now in
    let i = c.loop-ranked.ranked-index in
    let start = c.args.pages.now in
    let mid = c.loop-ranked.pages in
    let late = c.push.new.pages in
    let e = c.set.new.self in
    let keeps = c.push.ensures.keeps in
    let step = c.push.ensures.takes.step in
    record {
      writes = g.met.P.Pages.writes_on start mid late inv.writes step;
      same = record { key_is = keeps.key_is ∙ inv.same.key_is; width_is = keeps.width_is ∙ inv.same.width_is; prime_is = keeps.prime_is ∙ inv.same.prime_is };
      pushed = λ honest sound begin done on.
          let hb = g.met.P.Pages.writes_honestly mid late step honest in
          let had = inv.pushed hb sound begin done on in
          let pushes = c.in_ok-push.ensures.pushes honest had.1 in
          let front = done ++ take i entries in
          let more = (pushes.pushed front had.0.own_now had.0.building).answer in
          let since = built_since begin (g.P.Pages.shown.state mid).live (g.P.Pages.shown.state late).live c.loop-ranked.builder c.push.new.self front (front ++ e ∷ []) had.0 more in
          let next : front ++ e ∷ [] ≡ done ++ take (i + 1) entries = append_assoc done (take i entries) (e ∷ []) ∙ ap (λ (l : List AltEntry). done ++ l) (next_entry c.args.entries.now i c.ranked-item.result e c.loop-ranked-test.true (c.set.ensures ∙ ap entry_in c.ranked-item.is)) in
          (subst (AltBuildsOn begin (g.P.Pages.shown.state late).live c.push.new.self []) next since, pushes.sound);
    }

pub returns-clause-pushes : goal.returns-clause-pushes
returns-clause-pushes g c =
    let inv = c.loop-ranked.invariant in
    let i = c.loop-ranked.ranked-index in
    let all : length c.args.entries.now ≤ i = omega (arith, c.loop-ranked-test.false) in
    record {
      pushed = λ honest sound begin done on.
          let had = inv.pushed honest sound begin done on in
          record {
            answer = (subst (λ (l : List AltEntry). AltBuildsOn begin (g.P.Pages.shown.state c.loop-ranked.pages).live c.loop-ranked.builder [] (done ++ l)) (all_entries c.args.entries.now i all) had.0, had.1);
            no_damage = tt;
          };
    }

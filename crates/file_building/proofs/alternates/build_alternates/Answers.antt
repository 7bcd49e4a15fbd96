use Rattle.std.proofs.Common.{◌≡◌, ◌+◌, ◌-◌, ◌==◌, ℕ, suc, List, [], ◌∷◌, length, Option, IsTrue, ap, sym, subst, ◌∙◌, arith, length-append}
use Rattle.std.specs.Option.{IfSome}
use Rattle.tree_search.proofs.AnswerLemmas.{fails}
use Rattle.key_index.specs.declared.alt_index.AltIndex.{AltIndex}
use Rattle.key_index.specs.Standing.{AltChanged}
use Rattle.open_file.specs.InOrder.{alt_entries}
use Rattle.open_file.proofs.OrderLemmas.{either}
use Rattle.open_file.proofs.PartsLemmas.{from_eq, from_ne}
use Rattle.file_building.specs.Written.{rows_of}
use Rattle.file_building.specs.Ranks.{NoRankTwice}
use Rattle.file_building.specs.Rows.{RowsStandBuilt}
use Rattle.file_building.specs.Alternates.{EndsAlternate, IsIndexOfKey, AreIndexesFor}
use Rattle.file_building.proofs.StepLemmas.{StepLaws, cause_since, handed_on, no_answer}
use Rattle.file_building.proofs.AlternateLemmas.{index_more, index_for_more}
use Rattle.file_building.proofs.alternates.build_alternates.Goals as goal

pub returns-in_err-index-clause-builds : goal.returns-in_err-index-clause-builds
returns-in_err-index-clause-builds g c =
    let inv = c.loop-k.invariant in
    let keeps = c.in_err-index.ensures.keeps in
    record {
      built = λ honest sound records made_of stand.
          let hb = g.met.P.Pages.writes_honestly c.loop-k.pages c.build_key.new.pages keeps.step honest in
          let had = inv.built hb sound records made_of stand in
          fails _ _ _ c.from_residual.ensures.1 (c.in_err-index.ensures.builds.built honest had.2 records made_of c.loop-k.alternates.items had.0).no_damage;
      of = no_answer _ _ _ c.from_residual.ensures.1;
    }

pub returns-in_err-index-clause-keeps : goal.returns-in_err-index-clause-keeps
returns-in_err-index-clause-keeps g c =
    let laws : StepLaws g.P.Pages.shown = record { nothing = g.met.P.Pages.writes_nothing; on = g.met.P.Pages.writes_on; failed_before = g.met.P.Pages.failed_before; failed_after = g.met.P.Pages.failed_after } in
    let inv = c.loop-k.invariant in
    let keeps = c.in_err-index.ensures.keeps in
    let start = c.args.pages.now in
    let mid = c.loop-k.pages in
    let late = c.build_key.new.pages in
    record {
      cause = handed_on _ _ _ c.from_residual.ensures.1 (cause_since g.P.Pages.shown laws start mid late inv.writes _ keeps.cause);
      step = g.met.P.Pages.writes_on start mid late inv.writes keeps.step;
    }

pub returns-in-None-clause-builds : goal.returns-in-None-clause-builds
returns-in-None-clause-builds g c =
    let schema = c.args.schema.now in
    let inv = c.loop-k.invariant in
    let k = c.loop-k.k in
    let mid = c.loop-k.pages in
    let late = c.build_key.new.pages in
    let keeps = c.in_ok-index.ensures.keeps in
    let same : suc (k - 1) ≡ k = omega (arith, inv.many) in
    record {
      built = λ honest sound records made_of stand.
          let rows = rows_of schema records in
          let hb = g.met.P.Pages.writes_honestly mid late keeps.step honest in
          let had = inv.built hb sound records made_of stand in
          let one = (c.in_ok-index.ensures.builds.built honest had.2 records made_of c.loop-k.alternates.items had.0).answer in
          let none = subst (EndsAlternate schema k rows (g.P.Pages.shown.state mid).live (g.P.Pages.shown.state late).live (IsTrue (g.P.Pages.shown.state late).is_sound)) c.in-None.is one in
          record {
            answer = λ all. none (subst (λ (n : ℕ). NoRankTwice schema n rows) same (all (k - 1) (omega (arith, same, c.loop-k-test.true, c.key_count-keys.ensures.count))));
            no_damage = tt;
          };
      of = tt;
    }

pub loop-k-preserved : goal.loop-k-preserved
loop-k-preserved g c =
    let schema = c.args.schema.now in
    let inv = c.loop-k.invariant in
    let k = c.loop-k.k in
    let start = c.args.pages.now in
    let mid = c.loop-k.pages in
    let late = c.build_key.new.pages in
    let keeps = c.in_ok-index.ensures.keeps in
    let index = c.in-Some.index in
    let xs = c.loop-k.alternates.items in
    let items = c.push.ensures.items in
    let of : IsIndexOfKey schema k index = subst (λ (found : Option AltIndex). IfSome found (IsIndexOfKey schema k)) c.in-Some.is c.in_ok-index.ensures.builds.of in
    let of_next : IsIndexOfKey schema (length xs + 1) index = subst (λ (n : ℕ). IsIndexOfKey schema n index) (sym inv.many) of in
    record {
      writes = g.met.P.Pages.writes_on start mid late inv.writes keeps.step;
      each = subst (AreIndexesFor schema) (sym items) (index_for_more schema xs index inv.each of_next);
      many = ap (λ (l : List AltIndex). length l + 1) items ∙ (let long = length-append xs (index ∷ []) in let many = inv.many in omega (arith, long, many));
      within = omega (arith, c.loop-k-test.true);
      built = λ honest sound records made_of stand.
          let rows = rows_of schema records in
          let hb = g.met.P.Pages.writes_honestly mid late keeps.step honest in
          let had = inv.built hb sound records made_of stand in
          let one = (c.in_ok-index.ensures.builds.built honest had.2 records made_of c.loop-k.alternates.items had.0).answer in
          let made = subst (EndsAlternate schema k rows (g.P.Pages.shown.state mid).live (g.P.Pages.shown.state late).live (IsTrue (g.P.Pages.shown.state late).is_sound)) c.in-Some.is one in
          let changed = subst (λ (n : ℕ). AltChanged (g.P.Pages.shown.state mid).live (g.P.Pages.shown.state late).live index [] (alt_entries schema n rows)) (sym inv.many) made.0 in
          let stands = index_more schema c.args.rows.now.heap c.args.rows.now.prime xs (g.P.Pages.shown.state mid).live (g.P.Pages.shown.state late).live rows index had.0 changed in (
            subst (λ (l : List AltIndex). RowsStandBuilt schema c.args.rows.now.heap c.args.rows.now.prime l (g.P.Pages.shown.state late).live rows) (sym items) stands,
            λ j within. either (suc j == k) (NoRankTwice schema (suc j) rows)
                (λ yes. subst (λ (n : ℕ). NoRankTwice schema n rows) (sym (from_eq (suc j) k yes)) made.1)
                (λ no. let other = from_ne (suc j) k no in had.1 j (omega (arith, within, other))),
            made.2,
          );
    }

pub returns-clause-builds : goal.returns-clause-builds
returns-clause-builds g c =
    let inv = c.loop-k.invariant in
    record {
      built = λ honest sound records made_of stand.
          let had = inv.built honest sound records made_of stand in
          record { answer = (had.0, λ j within. had.1 j (omega (arith, within, c.loop-k-test.false, c.key_count-keys.ensures.count)), had.2); no_damage = tt };
      of = record { each = inv.each; many = omega (arith, inv.many, inv.within, c.loop-k-test.false, c.key_count-keys.ensures.count) };
    }

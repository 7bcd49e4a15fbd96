use Rattle.std.proofs.Common.{◌≡◌, true, false, IsTrue, subst, ap, ◌∙◌}
use Rattle.record_layout.specs.declared.schema.KeyPart.{KeyPart}
use Rattle.tree_search.proofs.AnswerLemmas.{fails}
use Rattle.open_file.specs.InOrder.{alt_entries}
use Rattle.file_building.specs.Batching.{EndsPushingAll}
use Rattle.file_building.specs.Ranks.{RanksRise}
use Rattle.file_building.specs.Written.{rows_of}
use Rattle.file_building.proofs.BuiltLemmas.{ended_since}
use Rattle.file_building.proofs.RankLemmas.{bytes_rise, entries_sorted, untied_entries}
use Rattle.file_building.proofs.UntiedLemmas.{sorted_rises}
use Rattle.file_building.proofs.StepLemmas.{StepLaws, index_cause, cause_since, handed_on, no_answer}
use Rattle.file_building.proofs.batching.build_in_batches.Goals as goal

pub returns-in_err-push_batches-clause-builds : goal.returns-in_err-push_batches-clause-builds
returns-in_err-push_batches-clause-builds g c =
    let live = (g.P.Pages.shown.state c.args.pages.now).live in
    record {
      built = λ honest sound records long stamps count alternates stand.
          fails _ _ _ c.from_residual.ensures.1 (c.in_err-push_batches.ensures.pushes.pushed honest sound records long stamps count alternates stand (c.new-builder.ensures.begun live)).no_damage;
      of = no_answer _ _ _ c.from_residual.ensures.1;
    }

pub returns-then-not-branch-clause-builds : goal.returns-then-not-branch-clause-builds
returns-then-not-branch-clause-builds g c =
    let schema = c.args.schema.now in
    let k = c.args.k in
    let live = (g.P.Pages.shown.state c.args.pages.now).live in
    let mid = c.push_batches.new.pages in
    let off : c.in_ok-push_batches.field-0 ≡ false = cc (c.if-not-branch.true) in
    record {
      built = λ honest sound records long stamps count alternates stand.
          let tied = subst (EndsPushingAll schema k (rows_of schema records) live (g.P.Pages.shown.state mid).live c.push_batches.new.builder (IsTrue (g.P.Pages.shown.state mid).is_sound)) off
          (c.in_ok-push_batches.ensures.pushes.pushed honest sound records long stamps count alternates stand (c.new-builder.ensures.begun live)).answer in
          record { answer = tied; no_damage = tt };
      of = tt;
    }

pub returns-in_err-index-clause-builds : goal.returns-in_err-index-clause-builds
returns-in_err-index-clause-builds g c =
    let schema = c.args.schema.now in
    let k = c.args.k in
    let live = (g.P.Pages.shown.state c.args.pages.now).live in
    let mid = c.push_batches.new.pages in
    let late = c.finish.new.pages in
    let builder = c.push_batches.new.builder in
    let on : c.in_ok-push_batches.field-0 ≡ true = cc (c.if-not-branch.false) in
    record {
      built = λ honest sound records long stamps count alternates stand.
          let rows = rows_of schema records in
          let entries = alt_entries schema k rows in
          let hb = g.met.P.Pages.writes_honestly mid late c.finish.ensures.takes.step honest in
          let had = subst (EndsPushingAll schema k rows live (g.P.Pages.shown.state mid).live builder (IsTrue (g.P.Pages.shown.state mid).is_sound)) on
          (c.in_ok-push_batches.ensures.pushes.pushed hb sound records long stamps count alternates stand (c.new-builder.ensures.begun live)).answer in
          let rise : RanksRise entries = subst RanksRise (entries_sorted schema k rows) (sorted_rises _ (untied_entries schema k rows had.1)) in
          let rises = bytes_rise builder.width builder.prime entries had.0.building.each rise in
          fails _ _ _ c.from_residual-in_err-index.ensures.1 ((c.in_err-index.ensures.finishes honest had.2).finished entries had.0.own_now had.0.building rises).no_damage;
      of = no_answer _ _ _ c.from_residual-in_err-index.ensures.1;
    }

pub returns-in_err-index-clause-keeps : goal.returns-in_err-index-clause-keeps
returns-in_err-index-clause-keeps g c =
    let laws : StepLaws g.P.Pages.shown = record { nothing = g.met.P.Pages.writes_nothing; on = g.met.P.Pages.writes_on; failed_before = g.met.P.Pages.failed_before; failed_after = g.met.P.Pages.failed_after } in
    let start = c.args.pages.now in
    let mid = c.push_batches.new.pages in
    let late = c.finish.new.pages in
    let first = c.in_ok-push_batches.ensures.keeps.step in
    let takes = c.in_err-index.ensures.takes in
    record {
      cause = handed_on _ _ _ c.from_residual-in_err-index.ensures.1 (cause_since g.P.Pages.shown laws start mid late first _ (index_cause g.P.Pages.shown laws mid late takes.step _ takes.cause));
      step = g.met.P.Pages.writes_on start mid late first takes.step;
    }

pub returns-clause-builds : goal.returns-clause-builds
returns-clause-builds g c =
    let schema = c.args.schema.now in
    let k = c.args.k in
    let live = (g.P.Pages.shown.state c.args.pages.now).live in
    let mid = c.push_batches.new.pages in
    let late = c.finish.new.pages in
    let builder = c.push_batches.new.builder in
    let on : c.in_ok-push_batches.field-0 ≡ true = cc (c.if-not-branch.false) in
    let index = c.in_ok-index.index in
    let of = c.in_ok-index.ensures.of in
    let same = c.in_ok-push_batches.ensures.pushes.same in
    let begun = c.new-builder.ensures.of in
    record {
      built = λ honest sound records long stamps count alternates stand.
          let rows = rows_of schema records in
          let entries = alt_entries schema k rows in
          let hb = g.met.P.Pages.writes_honestly mid late c.finish.ensures.takes.step honest in
          let had = subst (EndsPushingAll schema k rows live (g.P.Pages.shown.state mid).live builder (IsTrue (g.P.Pages.shown.state mid).is_sound)) on
          (c.in_ok-push_batches.ensures.pushes.pushed hb sound records long stamps count alternates stand (c.new-builder.ensures.begun live)).answer in
          let rise : RanksRise entries = subst RanksRise (entries_sorted schema k rows) (sorted_rises _ (untied_entries schema k rows had.1)) in
          let rises = bytes_rise builder.width builder.prime entries had.0.building.each rise in
          let ends = c.in_ok-index.ensures.finishes honest had.2 in
          let built = (ends.finished entries had.0.own_now had.0.building rises).answer in
          record {
            answer = (ended_since live (g.P.Pages.shown.state mid).live (g.P.Pages.shown.state late).live builder index entries _ _ had.0 built, had.1, ends.sound);
            no_damage = tt;
          };
      of = record {
        key_is = of.key_is ∙ same.key_is ∙ begun.key_is;
        width_is = of.width_is ∙ same.width_is ∙ begun.width_is ∙ ap (λ (part : KeyPart). part.length) c.part-width.ensures.part;
        prime_is = of.prime_is ∙ same.prime_is ∙ begun.prime_is ∙ ap (λ (part : KeyPart). part.length) c.part-prime.ensures.part;
      };
    }

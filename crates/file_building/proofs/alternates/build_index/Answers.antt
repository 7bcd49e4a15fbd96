use Rattle.std.proofs.Common.{[]}
use Rattle.tree_search.proofs.AnswerLemmas.{fails}
use Rattle.tree_search.proofs.SearchLemmas.{if_ok}
use Rattle.file_building.specs.Entries.{ranked_entries}
use Rattle.file_building.proofs.StepLemmas.{StepLaws, index_cause, cause_since, if_err}
use Rattle.file_building.proofs.RankLemmas.{bytes_rise}
use Rattle.file_building.proofs.BuiltLemmas.{begun, ended_since}
use Rattle.file_building.proofs.alternates.build_index.Goals as goal

pub returns-in_err-push_all-clause-builds : goal.returns-in_err-push_all-clause-builds
returns-in_err-push_all-clause-builds g c =
    let start = (g.P.Pages.shown.state c.args.pages.now).live in
    record {
      built = λ honest sound rise.
          fails _ _ _ c.from_residual.ensures.1 (c.in_err-push_all.ensures.pushes.pushed honest sound start [] (begun start c.new-builder.result (c.new-builder.ensures.begun start))).no_damage;
    }

pub finish-requires : goal.finish-requires
finish-requires g c = record {
  ready = g.met.P.Pages.writes_ready c.args.pages.now c.push_all.new.pages c.push_all.ensures.keeps.step c.requires.target.ready;
  changing = g.met.P.Pages.writes_changing c.args.pages.now c.push_all.new.pages c.push_all.ensures.keeps.step c.requires.target.open;
}

pub returns-clause-builds : goal.returns-clause-builds
returns-clause-builds g c =
    let start = (g.P.Pages.shown.state c.args.pages.now).live in
    let mid = (g.P.Pages.shown.state c.push_all.new.pages).live in
    let late = (g.P.Pages.shown.state c.finish.new.pages).live in
    let entries = ranked_entries c.args.entries.now in
    let builder = c.push_all.new.builder in
    record {
      built = λ honest sound rise.
          let hb = g.met.P.Pages.writes_honestly c.push_all.new.pages c.finish.new.pages c.finish.ensures.takes.step honest in
          let had = (c.in_ok-push_all.ensures.pushes.pushed hb sound start [] (begun start c.new-builder.result (c.new-builder.ensures.begun start))).answer in
          let ends = c.finish.ensures.finishes honest had.1 in
          let rises = bytes_rise builder.width builder.prime entries had.0.building.each rise in
          if_ok c.finish.result _ _
          (λ index built. (ended_since start mid late builder index entries _ _ had.0 built, ends.sound))
          (ends.finished entries had.0.own_now had.0.building rises);
    }

pub returns-clause-keeps : goal.returns-clause-keeps
returns-clause-keeps g c =
    let laws : StepLaws g.P.Pages.shown = record { nothing = g.met.P.Pages.writes_nothing; on = g.met.P.Pages.writes_on; failed_before = g.met.P.Pages.failed_before; failed_after = g.met.P.Pages.failed_after } in
    let start = c.args.pages.now in
    let mid = c.push_all.new.pages in
    let late = c.finish.new.pages in
    let first = c.push_all.ensures.keeps.step in
    let takes = c.finish.ensures.takes in
    record {
      cause = if_err c.finish.result _ _
          (λ fault is. cause_since g.P.Pages.shown laws start mid late first fault (index_cause g.P.Pages.shown laws mid late takes.step fault is)) takes.cause;
      step = g.met.P.Pages.writes_on start mid late first takes.step;
    }

use Rattle.std.proofs.Common.{◌≡◌, ◌∷◌, length, List, [], subst, arith}
use Rattle.tree_node.specs.Leaf.{leaf_entries}
use Rattle.tree_search.proofs.AnswerLemmas.{fails}
use Rattle.std.specs.Prelude.{IsTrue}
use Rattle.tree_node.specs.declared.separator.Separator.{Separator}
use Rattle.tree_building.specs.Building.{StandsOver}
use Rattle.tree_building.proofs.PageLemmas.{build_caused, late_memory}
use Rattle.tree_building.proofs.BuildLemmas.{more_stands}
use Rattle.tree_building.proofs.ending.end_with_one.Goals as goal

pub returns-in_err-write_one-clause-stands : goal.returns-in_err-write_one-clause-stands
returns-in_err-write_one-clause-stands g c honest sound =
    let one = c.in_err-write_one.ensures.writes honest sound in
    record { stands = λ entries own w rises counted full. fails _ _ _ c.from_residual.ensures.1 (one.writes entries own w).no_damage; kept = one.kept; sound = one.sound }

pub stand_over-requires-clause-pages : goal.stand_over-requires-clause-pages
stand_over-requires-clause-pages g c =
    let step = c.write_one.ensures.takes.step in
    record {
      ready = g.met.P.Pages.writes_ready c.args.pages.now c.write_one.new.pages step c.requires.pages.ready;
      changing = g.met.P.Pages.writes_changing c.args.pages.now c.write_one.new.pages step c.requires.pages.changing;
    }

pub returns-clause-stands : goal.returns-clause-stands
returns-clause-stands g c honest sound =
    let start = c.args.pages.now in
    let mid = c.write_one.new.pages in
    let later = c.stand_over.new.pages in
    let before = g.met.P.Pages.writes_honestly mid later c.stand_over.ensures.takes.step honest in
    let one = c.in_ok-write_one.ensures.writes before sound in
    more_stands c.args.shape (g.P.Pages.shown.state start).live (g.P.Pages.shown.state mid).live (g.P.Pages.shown.state later).live c.args.leaves.now.items c.write_one.new.leaves.items
    (leaf_entries c.args.shape c.args.leaf.now) (length (leaf_entries c.args.shape c.args.leaf.now) ∷ []) c.args.count c.stand_over.result
    (g.P.Pages.shown.state start).available (g.P.Pages.shown.state mid).available (g.P.Pages.shown.state later).available c.in_ok-write_one.ensures.taken c.in_ok-write_one.ensures.one one
    (subst (λ (l : List Separator). StandsOver c.args.shape l [] [] c.args.count c.stand_over.result (g.P.Pages.shown.state mid).available (g.P.Pages.shown.state later).available (g.P.Pages.shown.state mid).live (g.P.Pages.shown.state later).live
    (IsTrue (g.P.Pages.shown.state later).is_sound)) c.deref.ensures.value (c.stand_over.ensures.stands honest one.sound))

pub returns-clause-takes : goal.returns-clause-takes
returns-clause-takes g c =
    let start = c.args.pages.now in
    let mid = c.write_one.new.pages in
    let later = c.stand_over.new.pages in
    let one = c.write_one.ensures.takes in
    let two = c.stand_over.ensures.takes in
    record {
      few = omega (arith, one.few, two.few);
      cause = build_caused c.stand_over.result (g.P.Pages.shown.HasFailed mid later) (g.P.Pages.shown.HasFailed start later) ((g.P.Pages.shown.state later).available ≡ 0)
          (g.met.P.Pages.failed_after start mid later one.step) two.cause;
      memory = late_memory c.stand_over.result (g.P.Pages.shown.state start).available (g.P.Pages.shown.state mid).available (g.P.Pages.shown.state later).available one.few two.memory;
      step = g.met.P.Pages.writes_on start mid later one.step two.step;
    }

use Rattle.tree_building.specs.Filled.{entry_counts}
use Rattle.std.proofs.Common.{length, ◌≡◌, ◌++◌, arith}
use Rattle.tree_node.specs.Leaf.{leaf_entries}
use Rattle.tree_search.proofs.AnswerLemmas.{fails}
use Rattle.tree_building.proofs.PageLemmas.{keeps_on, build_caused, late_memory}
use Rattle.tree_building.proofs.RootLemmas.{answer_map}
use Rattle.tree_building.proofs.BuildLemmas.{two_written}
use Rattle.tree_building.proofs.ending.write_two.Goals as goal

pub returns-in_err-write_one-clause-writes : goal.returns-in_err-write_one-clause-writes
returns-in_err-write_one-clause-writes g c honest sound =
    let one = c.in_err-write_one.ensures.writes honest sound in
    record { writes = λ entries own w. fails _ _ _ c.from_residual.ensures.1 (one.writes entries own w).no_damage; kept = one.kept; sound = one.sound }

pub write_one-requires-2-clause-pages : goal.write_one-requires-2-clause-pages
write_one-requires-2-clause-pages g c =
    let step = c.write_one.ensures.takes.step in
    record {
      ready = g.met.P.Pages.writes_ready c.args.pages.now c.write_one.new.pages step c.requires.pages.ready;
      changing = g.met.P.Pages.writes_changing c.args.pages.now c.write_one.new.pages step c.requires.pages.changing;
    }

pub returns-clause-writes : goal.returns-clause-writes
returns-clause-writes g c honest sound =
    let shape = c.args.shape in
    let start = c.args.pages.now in
    let mid = c.write_one.new.pages in
    let later = c.write_one-2.new.pages in
    let before = g.met.P.Pages.writes_honestly mid later c.write_one-2.ensures.takes.step honest in
    let one = c.in_ok-write_one.ensures.writes before sound in
    let two = c.write_one-2.ensures.writes honest one.sound in
    record {
      writes = λ entries own w.
          let first = (one.writes entries own w).answer in
          answer_map (two.writes (entries ++ leaf_entries shape c.even_out.new.lower) first.own_now first.written) (λ done second.
          two_written shape (g.P.Pages.shown.state start).live (g.P.Pages.shown.state mid).live (g.P.Pages.shown.state later).live c.write_one.new.leaves.items c.write_one-2.new.leaves.items entries
          (leaf_entries shape c.even_out.new.lower) (leaf_entries shape c.even_out.new.upper) (leaf_entries shape c.args.lower.now ++ leaf_entries shape c.args.upper.now) own (entry_counts w.leaves)
          (length (leaf_entries shape c.even_out.new.lower)) (length (leaf_entries shape c.even_out.new.upper)) first second
          c.even_out.ensures.in_order.has);
      kept = keeps_on one.kept two.kept;
      sound = two.sound;
    }

pub returns-clause-takes : goal.returns-clause-takes
returns-clause-takes g c =
    let start = c.args.pages.now in
    let mid = c.write_one.new.pages in
    let later = c.write_one-2.new.pages in
    let one = c.write_one.ensures.takes in
    let two = c.write_one-2.ensures.takes in
    record {
      few = omega (arith, one.few, two.few);
      cause = build_caused c.write_one-2.result (g.P.Pages.shown.HasFailed mid later) (g.P.Pages.shown.HasFailed start later) ((g.P.Pages.shown.state later).available ≡ 0)
          (g.met.P.Pages.failed_after start mid later one.step) two.cause;
      memory = late_memory c.write_one-2.result (g.P.Pages.shown.state start).available (g.P.Pages.shown.state mid).available (g.P.Pages.shown.state later).available one.few two.memory;
      step = g.met.P.Pages.writes_on start mid later one.step two.step;
    }

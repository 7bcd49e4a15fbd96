use Rattle.std.proofs.Common.{◌+◌, arith, sym, subst, slice_index_or, List, ℕ}
use Rattle.tree_node.specs.Leaf.{leaf_entries}
use Rattle.pages.proofs.SourceLemmas.{there_is}
use Rattle.page_walks.specs.Runs.{values_of, TakesValues}
use Rattle.page_walks.proofs.RunLemmas.{leaf_adds}
use Rattle.page_walks.proofs.runs.longest_run.Goals as goal

pub loop-n-preserved : goal.loop-n-preserved
loop-n-preserved g c = record {
  counted = λ list has few together.
      (let at = there_is list (slice_index_or c.args.leaves.now c.loop-n.n-index 0) c.in_ok-page.page (c.in_ok-page.ensures.there list has) in
      leaf_adds c.args.width c.args.shape list c.args.leaves.now c.loop-n.n-index (c.loop-n.n-index + 1) c.loop-n.run c.in_ok-run.run' (omega arith) c.loop-n-test.true few together
      (c.loop-n.invariant.counted list (c.leaf_page.ensures.before list has) few together)
      (subst (λ (page : List ℕ). TakesValues (values_of c.args.width (leaf_entries c.args.shape page)) c.loop-n.run c.in_ok-run.run') (sym at.1) c.in_ok-run.ensures.taken));
  before = λ list has. c.loop-n.invariant.before list (c.leaf_page.ensures.before list has);
}

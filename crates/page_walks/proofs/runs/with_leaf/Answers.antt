use Rattle.std.proofs.Common.{◌+◌, arith, take, ap}
use Rattle.tree_node.specs.Leaf.{leaf_entries}
use Rattle.page_walks.proofs.RunLemmas.{entry_more, leaf_done}
use Rattle.page_walks.proofs.runs.with_leaf.Goals as goal

pub loop-i-preserved : goal.loop-i-preserved
loop-i-preserved c =
    let es = leaf_entries c.args.shape c.args.page.now in
    let inside = c.loop-i-test.true in
    entry_more c.args.width es c.loop-i.i (c.loop-i.i + 1) c.args.run c.loop-i.run c.in_ok-run.run' (take c.args.width c.entry.result.now) (omega arith)
    (omega (arith, inside, c.count-i-end.ensures.value)) (ap (take c.args.width) c.entry.ensures.value) c.loop-i.invariant c.in_ok-run.ensures.taken

pub returns-clause-taken : goal.returns-clause-taken
returns-clause-taken c =
    let es = leaf_entries c.args.shape c.args.page.now in
    leaf_done c.args.width es c.loop-i.i c.args.run c.loop-i.run (omega (arith, c.loop-i-test.false, c.loop-i.auto.i-end, c.count-i-end.ensures.value)) c.loop-i.invariant

use Rattle.std.proofs.Common.{◌≡◌, ◌≤◌, length, refl, arith}
use Rattle.pages.specs.declared.fault_place.FaultPlace.TheVariants.{Entry}
use Rattle.pages.specs.declared.damage.Damage.TheVariants.{Order}
use Rattle.tree_node.specs.Inner.{separators}
use Rattle.page_walks.specs.TreeFaults.{IsNodeFault, node_place}
use Rattle.pages.proofs.ToldLemmas.{told}
use Rattle.page_walks.proofs.tree_walk.check_inner.Goals as goal

pub returns-in-Err-clause-told : goal.returns-in-Err-clause-told
returns-in-Err-clause-told c =
    let at = node_place 1 c.args.n c.args.limits in
    let many : c.count-separators.result ≡ length (separators c.args.shape c.args.page.now) = c.count-separators.ensures.value in
    let least : c.args.limits.least ≤ length (separators c.args.shape c.args.page.now) = omega arith in
    told (IsNodeFault c.args.shape c.args.page.now at) c.of_entry.result Order (Entry c.args.n c.in-Err.separator) c.of_entry.ensures
    ((c.if-not-is_inner.ensures.0 refl, least), (c.in-Err.separator, refl, c.in-Err.ensures.told))

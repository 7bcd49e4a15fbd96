use Rattle.std.proofs.Common.{arith}
use Rattle.tree_node.specs.Leaf.{leaf_entries}
use Rattle.tree_node.proofs.LeafLemmas.{leaf_room_some}
use Rattle.tree_node.proofs.BalanceLemmas.{lengths}
use Rattle.tree_building.proofs.pending.even_out.Goals as goal

pub returns : goal.returns
returns c =
    let shape = c.args.shape in
    let moved = c.move_back.ensures in
    let same = lengths (leaf_entries shape c.move_back.new.lower) (leaf_entries shape c.move_back.new.upper) (leaf_entries shape c.args.lower.now) (leaf_entries shape c.args.upper.now) moved.in_order.has in
    let more = moved.more in
    let first = c.count-first.ensures.value in
    let second = c.count-second.ensures.value in
    let fits = c.count-first.ensures.within in
    let fits' = c.count-second.ensures.within in
    let full = c.requires.full in
    let some = c.requires.some in
    let room = leaf_room_some shape in
    record { in_order = moved.in_order; enough = (omega arith, omega arith) }

use Rattle.std.proofs.Common.{Bool, sym, subst}
use Rattle.tree_node.specs.Leaf.{leaf_entries}
use Rattle.tree_search.specs.Search.{IsPlace}
use Rattle.tree_search.proofs.search.place_in.Goals as goal

pub returns-then-past : goal.returns-then-past
returns-then-past c rises =
    subst (λ (b : Bool). IsPlace b c.args.shape.width c.args.key.now (leaf_entries c.args.shape c.args.bytes.now) c.rank_after.result) (sym c.if-past.true) (c.rank_after.ensures.rank rises)

pub returns-else-past : goal.returns-else-past
returns-else-past c rises =
    subst (λ (b : Bool). IsPlace b c.args.shape.width c.args.key.now (leaf_entries c.args.shape c.args.bytes.now) c.rank.result) (sym c.if-past.false) (c.rank.ensures.rank rises)

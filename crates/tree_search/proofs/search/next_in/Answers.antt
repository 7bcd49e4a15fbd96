use Rattle.tree_node.specs.Leaf.{leaf_entries}
use Rattle.tree_search.proofs.SpotLemmas.{placed, in_leaf}
use Rattle.tree_search.proofs.search.next_in.Goals as goal

pub returns-clause-found : goal.returns-clause-found
returns-clause-found c rises =
    placed c.args.past c.args.shape.width c.args.key.now (leaf_entries c.args.shape c.args.bytes.now) c.args.page c.place_in-place.result c.entry_at.new.spot c.entry_at.result (c.place_in-place.ensures rises) c.entry_at.ensures

pub returns-clause-spot : goal.returns-clause-spot
returns-clause-spot c =
    in_leaf c.args.page c.place_in-place.result (leaf_entries c.args.shape c.args.bytes.now) c.entry_at.new.spot c.entry_at.result c.entry_at.ensures

use Rattle.std.proofs.Common.{◌≡◌, length, ap, ◌∙◌}
use Rattle.tree_node.specs.declared.separator.Separator.{Separator}
use Rattle.tree_node.proofs.OrderLemmas.{Each-get_or}
use Rattle.tree_building.proofs.NodeLemmas.{on_ok, wide_still}
use Rattle.tree_building.proofs.nodes.add_node.Goals as goal

pub returns-clause-width : goal.returns-clause-width
returns-clause-width g c =
    let wide = Each-get_or (λ (n : Separator). length n.key.items ≡ c.args.shape.width) c.args.group.now 0 c.index-group-0-2.result c.requires.group.some c.requires.group.width in
    on_ok c.push_node.result
    (λ keys old. wide_still c.args.shape c.args.beside.now.items c.push_node.new.nodes.items c.deref.result.now (ap length c.deref.ensures.0 ∙ wide) keys old)
    c.push_node.ensures.keys

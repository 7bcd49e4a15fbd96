use Rattle.std.proofs.Common.{[], List, refl, sym, subst}
use Rattle.tree_node.specs.declared.separator.Separator.{Separator}
use Rattle.tree_building.specs.Building.{AreInFullLeaves}
use Rattle.tree_building.proofs.BuildLemmas.{none_written}
use Rattle.tree_building.proofs.builder.TreeBuilder.new.Goals as goal

pub returns-clause-begun : goal.returns-clause-begun
returns-clause-begun c pages =
    record {
      front = [];
      written = subst (λ (l : List Separator). AreInFullLeaves c.args.shape pages l [] []) (sym c.new.ensures.items) (none_written c.args.shape pages);
      has = rw c.write_leaf.ensures.has refl;
      count = refl;
    }

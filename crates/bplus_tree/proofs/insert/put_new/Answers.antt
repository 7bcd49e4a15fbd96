use Rattle.std.proofs.Common.{◌∙◌, rules}
use Rattle.tree_node.specs.Leaf.{leaf_entries}
use Rattle.bplus_tree.proofs.WithEntryLemmas.{insert_is_with}
use Rattle.bplus_tree.proofs.insert.put_new.Goals as goal

pub returns : goal.returns
returns c = record {
  leaf = search rules;
  put = λ rises.
      let place = c.rank-place.ensures.rank rises in
      let none = (c.has_key.ensures.key rises place).absent c.if-has_key.false in
      (none, c.put_at.ensures.holds ∙ insert_is_with c.args.shape.width c.args.entry.now (leaf_entries c.args.shape c.args.page.now) c.rank-place.result place none);
  same = search rules;
}

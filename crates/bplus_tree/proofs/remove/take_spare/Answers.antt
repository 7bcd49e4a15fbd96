use Rattle.std.proofs.Common.{◌≡◌, ◌≤◌, ◌+◌, List, ℕ, Some, length, sym, ap, ◌∙◌, arith, rules}
use Rattle.std.proofs.lemmas.List.Edits.{length-remove}
use Rattle.tree_node.specs.Fill.{least_entries}
use Rattle.tree_node.specs.Leaf.{leaf_entries}
use Rattle.bplus_tree.proofs.remove.take_spare.Goals as goal

pub returns : goal.returns
returns c = record {
  leaf = search rules;
  taken = λ rises.
      let es = leaf_entries c.args.shape c.args.page.now in
      let now = leaf_entries c.args.shape c.cut_out-short.new.page in
      let rank = c.rank-place.ensures.rank rises in
      let left = c.cut_out-short.ensures.removed.holds in
      let fewer : length now + 1 ≡ length es = ap (λ (l : List (List ℕ)). length l + 1) left ∙ length-remove es c.rank-place.result (c.has_key.ensures.within c.if-not-has_key.false) in
      let enough : least_entries c.args.shape 0 ≤ length now = omega arith in
      record {
        place = c.rank-place.result;
        rank = rank;
        was = (c.has_key.ensures.key rises rank).present c.if-not-has_key.false ∙ ap Some (sym (c.fill.ensures ∙ c.entry.ensures.value));
        left = left;
        enough = enough;
      };
  same = search rules;
}

use Rattle.std.proofs.Common.{◌≡◌, ◌+◌, ◌-◌, length, Some, arith, sym, ap, ◌∙◌}
use Rattle.tree_node.specs.Leaf.{leaf_entries}
use Rattle.tree_search.proofs.SearchLemmas.{last_index, last_nothing}
use Rattle.tree_search.proofs.search.last_in.Goals as goal

pub returns-then-count-eq0 : goal.returns-then-count-eq0
returns-then-count-eq0 c =
    let none : length (leaf_entries c.args.shape c.args.page.now) ≡ 0 = omega arith in
    sym (last_nothing (leaf_entries c.args.shape c.args.page.now) none)

pub returns : goal.returns
returns c =
    let es = leaf_entries c.args.shape c.args.page.now in
    let long : c.count-count.result - 1 + 1 ≡ length es = omega arith in
    ap Some (c.entry_with.ensures ∙ c.entry.ensures.value) ∙ sym (last_index es (c.count-count.result - 1) long)

use Rattle.std.proofs.Common.{◌≡◌, ◌+◌, ℕ, suc, [], not, get_or, take, ap, sym, ◌∙◌, arith}
use Rattle.tree_node.specs.Leaf.{leaf_entries}
use Rattle.tree_node.specs.Order.{less}
use Rattle.tree_search.proofs.RangeLemmas.{look_none, look_past, look_last, look_two}
use Rattle.tree_search.proofs.range.look_from.Goals as goal

pub returns-then-place-count-clause-sight : goal.returns-then-place-count-clause-sight
returns-then-place-count-clause-sight c from high rises rank under =
    let n = c.count-count.ensures.value in
    look_none c.args.shape.width from c.args.to.now high (leaf_entries c.args.shape c.args.page.now) c.args.place rises rank under (omega arith)

pub returns-then-is_past-clause-sight : goal.returns-then-is_past-clause-sight
returns-then-is_past-clause-sight c from high rises rank under =
    let n = c.count-count.ensures.value in
    look_past c.args.shape.width from c.args.to.now high (leaf_entries c.args.shape c.args.page.now) c.args.place rises rank under (omega arith)
    (ap (less c.args.to.now) (sym c.key.ensures.value) ∙ sym c.is_past.ensures ∙ c.if-is_past.true)

pub returns-then-place-count-2-clause-sight : goal.returns-then-place-count-2-clause-sight
returns-then-place-count-2-clause-sight c from high rises rank under =
    let n = c.count-count.ensures.value in
    look_last c.args.shape.width from c.args.to.now high (leaf_entries c.args.shape c.args.page.now) c.args.place rises rank under (omega arith)
    c.fill.new.entry (c.fill.ensures ∙ c.entry.ensures.value) (omega arith)
    (ap (less c.args.to.now) (sym c.key.ensures.value) ∙ sym c.is_past.ensures ∙ c.if-is_past.false)

pub returns-clause-sight : goal.returns-clause-sight
returns-clause-sight c from high rises rank under =
    let n = c.count-count.ensures.value in
    let es = leaf_entries c.args.shape c.args.page.now in
    let next : c.args.place + 1 ≡ suc c.args.place = omega arith in
    look_two c.args.shape.width from c.args.to.now high es c.args.place rises rank under (omega arith)
    _ (c.fill.ensures ∙ c.entry.ensures.value) (omega arith)
    (ap (less c.args.to.now) (sym c.key.ensures.value) ∙ sym c.is_past.ensures ∙ c.if-is_past.false)
    (ap not (c.is_past-followed.ensures ∙ ap (less c.args.to.now) (c.key-2.ensures.value ∙ ap (λ (m : ℕ). take c.args.shape.width (get_or es m [])) next)))

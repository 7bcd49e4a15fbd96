use Rattle.std.proofs.Common.{List, ℕ, subst, arith, ◌∙◌}
use Rattle.tree_node.specs.Balance.{InnersShared}
use Rattle.tree_node.proofs.BalanceLemmas.{left_inner, right_inner, only_shared}
use Rattle.tree_node.proofs.neighbours.balance_inners.Goals as goal

pub returns-then-lower-upper-2 : goal.returns-then-lower-upper-2
returns-then-lower-upper-2 c =
    let between = c.as_slice-then-lower-upper-2.ensures.value ∙ c.separator_at-between.ensures.value in
    only_shared c.args.shape 1 c.args.at c.args.node.now c.args.left.now c.args.right.now _ _ _ _ c.set.ensures
    (subst (λ (b : List ℕ). InnersShared c.args.shape b c.args.left.now c.args.right.now c.fill_left_inner-key.new.left c.fill_left_inner-key.new.right c.as_slice-then-lower-upper-2-2.result.now) between
    (left_inner c.args.shape c.as_slice-then-lower-upper-2.result.now c.args.left.now c.args.right.now c.fill_left_inner-key.new.left c.fill_left_inner-key.new.right c.as_slice-then-lower-upper-2-2.result.now
    (rw c.as_slice-then-lower-upper-2-2.ensures.value c.fill_left_inner-key.ensures.in_order) c.fill_left_inner-key.ensures.more (omega arith) (omega arith)))

pub returns-then-upper-lower : goal.returns-then-upper-lower
returns-then-upper-lower c =
    let between = c.as_slice-then-upper-lower.ensures.value ∙ c.separator_at-between.ensures.value in
    only_shared c.args.shape 1 c.args.at c.args.node.now c.args.left.now c.args.right.now _ _ _ _ c.set-then-upper-lower.ensures
    (subst (λ (b : List ℕ). InnersShared c.args.shape b c.args.left.now c.args.right.now c.fill_right_inner-key.new.left c.fill_right_inner-key.new.right c.as_slice-then-upper-lower-2.result.now) between
    (right_inner c.args.shape c.as_slice-then-upper-lower.result.now c.args.left.now c.args.right.now c.fill_right_inner-key.new.left c.fill_right_inner-key.new.right c.as_slice-then-upper-lower-2.result.now
    (rw c.as_slice-then-upper-lower-2.ensures.value c.fill_right_inner-key.ensures.in_order) c.fill_right_inner-key.ensures.more (omega arith) (omega arith)))

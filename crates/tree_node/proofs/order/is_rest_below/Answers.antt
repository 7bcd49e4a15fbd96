use Rattle.std.proofs.Common.{◌≢◌, ap, sym, ◌∙◌, arith}
use Rattle.std.specs.Ordering.{is_lt}
use Rattle.byteorder.specs.Endian.{big_number}
use Rattle.tree_node.specs.Order.{less}
use Rattle.tree_node.proofs.NumberLemmas.{slice_cmp-numbers, is_lt-nat_cmp}
use Rattle.tree_node.proofs.order.is_rest_below.Goals as goal

pub returns : goal.returns
unfolding less
returns c = c.is_lt.ensures ∙ ap is_lt c.cmp.ensures

pub returns-then-first-second : goal.returns-then-first-second
unfolding less
returns-then-first-second c =
    let a = c.args.a.now in
    let b = c.args.b.now in
    let first = c.leading_number-first.ensures in
    let second = c.leading_number-second.ensures in
    let differ : big_number 8 a ≢ big_number 8 b = λ e. c.if-first-second.true (first.value ∙ e ∙ sym second.value) in
    rw (first.value, second.value, slice_cmp-numbers 8 a b (omega arith) (omega arith) first.bytes second.bytes differ)
    (sym (is_lt-nat_cmp (big_number 8 a) (big_number 8 b)))

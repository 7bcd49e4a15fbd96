use Rattle.std.proofs.Common.{◌≡◌, ◌<◌, ◌-◌, suc, inl, inr, length, take, get_or, [], refl, sym, arith, subst}
use Rattle.std.proofs.lemmas.Bool.{false≢true}
use Rattle.std.specs.Option.{option_copied}
use Rattle.tree_search.specs.Tree.{Bound, Below, NotBelow}
use Rattle.tree_node.specs.Leaf.{leaf_entries}
use Rattle.page_walks.proofs.RisenLemmas.{risen_more, from_low}
use Rattle.page_walks.proofs.OrderAheadLemmas.{first_from, is_below_next, under_high}
use Rattle.page_walks.proofs.order.check_keys.Goals as goal

pub keys-preserved : goal.keys-preserved
keys-preserved c =
    let es = leaf_entries c.args.shape c.args.page.now in
    let one : c.keys.i ≡ suc (c.keys.i - 1) = omega arith in
    let more = risen_more c.args.shape.width (option_copied c.args.high) es (c.keys.i - 1) (option_copied c.keys.above) (omega arith) (rw one at c.keys.invariant.risen)
    (subst (Below (option_copied c.keys.above)) c.key-key.ensures.value (c.if-not-is_under.ensures.0 refl)) in
    record { within = omega arith; risen = rw c.key-key.ensures.value more }

pub returns-clause-inside : goal.returns-clause-inside
returns-clause-inside c =
    let es = leaf_entries c.args.shape c.args.page.now in
    let zero' : c.keys.i ≡ 0 = omega arith in
    let risen = rw zero' at c.keys.invariant.risen in
    from_low c.args.shape.width (option_copied c.args.low) (option_copied c.args.high) es risen.rises risen.under (let n : c.count.result ≡ length es = c.count.ensures.value in omega arith)
    (subst (NotBelow (option_copied c.args.low)) c.key.ensures.value (c.if-not-is_from.ensures.0 refl))

pub returns-then-not-is_under-clause-refused : goal.returns-then-not-is_under-clause-refused
returns-then-not-is_under-clause-refused c rises inside =
    let es = leaf_entries c.args.shape c.args.page.now in
    let one : c.keys.i ≡ suc (c.keys.i - 1) = omega arith in
    let below = is_below_next c.args.shape.width (option_copied c.args.high) es (c.keys.i - 1) (omega arith) rises (under_high c.args.shape.width (option_copied c.args.low) (option_copied c.args.high) es inside) in
    false≢true (c.if-not-is_under.ensures.1 (subst (Below (option_copied c.keys.above)) (sym c.key-key.ensures.value)
    (subst (λ (b : Bound). Below b (take c.args.shape.width (get_or es (c.keys.i - 1) []))) (sym (rw one at c.keys.invariant.risen.ahead)) below)))

pub returns-then-not-is_from-clause-refused : goal.returns-then-not-is_from-clause-refused
returns-then-not-is_from-clause-refused c rises inside =
    let es = leaf_entries c.args.shape c.args.page.now in
    let many : c.count.result ≡ length es = c.count.ensures.value in
    let some : 0 < length es = omega arith in
    false≢true (c.if-not-is_from.ensures.1 (subst (NotBelow (option_copied c.args.low)) (sym c.key.ensures.value)
    (first_from c.args.shape.width (option_copied c.args.low) (option_copied c.args.high) es some inside)))

pub returns-then-not-is_under-clause-told : goal.returns-then-not-is_under-clause-told
returns-then-not-is_under-clause-told c =
    let es = leaf_entries c.args.shape c.args.page.now in
    let one : c.keys.i ≡ suc (c.keys.i - 1) = omega arith in (
      omega arith,
      inl (λ below. false≢true (c.if-not-is_under.ensures.1 (subst (Below (option_copied c.keys.above)) (sym c.key-key.ensures.value)
          (subst (λ (b : Bound). Below b (take c.args.shape.width (get_or es (c.keys.i - 1) []))) (sym (rw one at c.keys.invariant.risen.ahead)) below)))),
    )

pub returns-then-not-is_from-clause-told : goal.returns-then-not-is_from-clause-told
returns-then-not-is_from-clause-told c =
    let es = leaf_entries c.args.shape c.args.page.now in
    let many : c.count.result ≡ length es = c.count.ensures.value in (
      omega arith,
      inr (refl, λ from. false≢true (c.if-not-is_from.ensures.1 (subst (NotBelow (option_copied c.args.low)) (sym c.key.ensures.value) from))),
    )

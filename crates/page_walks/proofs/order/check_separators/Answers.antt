use Rattle.std.proofs.Common.{◌≡◌, ◌<◌, ℕ, List, inl, inr, length, ◌-◌, suc, [], get_or, take, refl, arith, sym, subst, ◌∙◌}
use Rattle.std.proofs.lemmas.Bool.{false≢true}
use Rattle.std.specs.Option.{option_copied}
use Rattle.tree_search.specs.Tree.{Bound, Below, Above}
use Rattle.tree_node.specs.Inner.{separators, branches}
use Rattle.tree_node.proofs.OrderLemmas.{Each-get_or}
use Rattle.page_walks.proofs.RisenLemmas.{risen_more, between_keys}
use Rattle.tree_search.proofs.DescentLemmas.{whole_keys}
use Rattle.page_walks.proofs.OrderAheadLemmas.{first_over, is_below_next, separators_under}
use Rattle.page_walks.proofs.order.check_separators.Goals as goal

pub keys-preserved : goal.keys-preserved
keys-preserved c =
    let es = separators c.args.shape c.args.page.now in
    let one : c.keys.i ≡ suc (c.keys.i - 1) = omega arith in
    let whole : take c.args.shape.width (get_or es (c.keys.i - 1) []) ≡ get_or es (c.keys.i - 1) [] = Each-get_or (λ (s : List ℕ). take c.args.shape.width s ≡ s) es (c.keys.i - 1) [] (omega arith) (whole_keys c.args.shape.width (branches c.args.shape c.args.page.now)) in
    let more = risen_more c.args.shape.width (option_copied c.args.high) es (c.keys.i - 1) (option_copied c.keys.above) (omega arith) (rw one at c.keys.invariant.risen)
    (subst (Below (option_copied c.keys.above)) (c.separator-key.ensures.value ∙ sym whole) (c.if-not-is_under.ensures.0 refl)) in
    record { within = omega arith; risen = rw (c.separator-key.ensures.value ∙ sym whole) more }

pub returns-clause-between : goal.returns-clause-between
returns-clause-between c =
    let es = separators c.args.shape c.args.page.now in
    let none : c.keys.i ≡ 0 = omega arith in
    let risen = rw none at c.keys.invariant.risen in
    between_keys c.args.shape.width (option_copied c.args.low) (option_copied c.args.high) es (whole_keys c.args.shape.width (branches c.args.shape c.args.page.now)) risen.rises risen.under
    (λ some. subst (Above (option_copied c.args.low)) c.separator.ensures.value (c.if-not-is_over.ensures.0 refl))

pub returns-then-not-is_under-clause-refused : goal.returns-then-not-is_under-clause-refused
returns-then-not-is_under-clause-refused c rises between =
    let width = c.args.shape.width in
    let es = separators c.args.shape c.args.page.now in
    let one : c.keys.i ≡ suc (c.keys.i - 1) = omega arith in
    let all = whole_keys width (branches c.args.shape c.args.page.now) in
    let whole : take width (get_or es (c.keys.i - 1) []) ≡ get_or es (c.keys.i - 1) [] = Each-get_or (λ (s : List ℕ). take width s ≡ s) es (c.keys.i - 1) [] (omega arith) all in
    let below = is_below_next width (option_copied c.args.high) es (c.keys.i - 1) (omega arith) rises (separators_under width (option_copied c.args.low) (option_copied c.args.high) es all between) in
    false≢true (c.if-not-is_under.ensures.1 (subst (Below (option_copied c.keys.above)) (whole ∙ sym c.separator-key.ensures.value)
    (subst (λ (b : Bound). Below b (take width (get_or es (c.keys.i - 1) []))) (sym (rw one at c.keys.invariant.risen.ahead)) below)))

pub returns-then-not-is_over-clause-refused : goal.returns-then-not-is_over-clause-refused
returns-then-not-is_over-clause-refused c rises between =
    let es = separators c.args.shape c.args.page.now in
    let many : c.count.result ≡ length es = c.count.ensures.value in
    let some : 0 < length es = omega arith in
    false≢true (c.if-not-is_over.ensures.1 (subst (Above (option_copied c.args.low)) (sym c.separator.ensures.value)
    (first_over (option_copied c.args.low) (option_copied c.args.high) es some between)))

pub returns-then-not-is_under-clause-told : goal.returns-then-not-is_under-clause-told
returns-then-not-is_under-clause-told c =
    let width = c.args.shape.width in
    let es = separators c.args.shape c.args.page.now in
    let one : c.keys.i ≡ suc (c.keys.i - 1) = omega arith in
    let all = whole_keys width (branches c.args.shape c.args.page.now) in
    let whole : take width (get_or es (c.keys.i - 1) []) ≡ get_or es (c.keys.i - 1) [] = Each-get_or (λ (s : List ℕ). take width s ≡ s) es (c.keys.i - 1) [] (omega arith) all in (
      omega arith,
      inl (λ below. false≢true (c.if-not-is_under.ensures.1 (subst (Below (option_copied c.keys.above)) (whole ∙ sym c.separator-key.ensures.value)
          (subst (λ (b : Bound). Below b (take width (get_or es (c.keys.i - 1) []))) (sym (rw one at c.keys.invariant.risen.ahead)) below)))),
    )

pub returns-then-not-is_over-clause-told : goal.returns-then-not-is_over-clause-told
returns-then-not-is_over-clause-told c =
    let width = c.args.shape.width in
    let es = separators c.args.shape c.args.page.now in
    let many : c.count.result ≡ length es = c.count.ensures.value in
    let all = whole_keys width (branches c.args.shape c.args.page.now) in
    let whole : take width (get_or es 0 []) ≡ get_or es 0 [] = Each-get_or (λ (s : List ℕ). take width s ≡ s) es 0 [] (omega arith) all in (
      omega arith,
      inr (refl, λ over. false≢true (c.if-not-is_over.ensures.1 (subst (Above (option_copied c.args.low)) (whole ∙ sym c.separator.ensures.value) over))),
    )

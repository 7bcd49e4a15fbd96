use Rattle.std.proofs.Common.{ℕ, List, ap, arith, Some, sym, subst, ◌∙◌, Option, Bor}
use Rattle.std.specs.Option.{option_copied}
use Rattle.tree_node.specs.Leaf.{leaf_entries}
use Rattle.tree_node.specs.Order.{FindsRank}
use Rattle.page_walks.specs.declared.spot.LeafSpot.{LeafSpot}
use Rattle.pages.proofs.SourceLemmas.{there_is}
use Rattle.file_checker.proofs.SearchLemmas.{leaf_found}
use Rattle.file_checker.proofs.entry.entry_in.Goals as goal

pub returns-then-place-leaf-clause-found : goal.returns-then-place-leaf-clause-found
returns-then-place-leaf-clause-found g c = λ list has there rises place within key.
    let here = there_is list c.args.leaf.page c.in_ok-page.page.now (sym (c.lend.follows.holds-at-none.0 list has) ∙ ap (λ (o : Option (Bor (List ℕ))). option_copied o) c.in_ok-page.was) in
    let rank = subst (λ (b : List ℕ). FindsRank c.args.shape.width c.args.key.now (leaf_entries c.args.shape b) c.rank-place.result) (sym here.1) c.rank-place.ensures in
    let is = leaf_found c.args.shape list c.args.leaf c.args.key.now c.rank-place.result rank there rises place within key in
    let past = c.if-place-leaf.true in
    absurd (omega (arith, is, within, past))

pub returns-clause-found : goal.returns-clause-found
returns-clause-found g c = λ list has there rises place within key.
    let here = there_is list c.args.leaf.page c.in_ok-page.page.now (sym (c.lend.follows.holds-at-none.0 list has) ∙ ap (λ (o : Option (Bor (List ℕ))). option_copied o) c.in_ok-page.was) in
    let rank = subst (λ (b : List ℕ). FindsRank c.args.shape.width c.args.key.now (leaf_entries c.args.shape b) c.rank-place.result) (sym here.1) c.rank-place.ensures in
    let is = leaf_found c.args.shape list c.args.leaf c.args.key.now c.rank-place.result rank there rises place within key in
    ap (λ (n : ℕ). let it : LeafSpot = record { page = c.args.leaf.page; place = n } in Some it) is

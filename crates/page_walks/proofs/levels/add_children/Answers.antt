use Rattle.std.proofs.Common.{◌≡◌, ◌+◌, ◌<◌, ◌++◌, ◌∷◌, [], List, ℕ, take, length, get_or, ap, sym, ◌∙◌, arith, append_assoc}
use Rattle.std.proofs.lemmas.List.{take_more, take_all}
use Rattle.tree_node.specs.declared.shape.NodeShape.{NodeShape}
use Rattle.tree_node.specs.Inner.{separators, children}
use Rattle.tree_node.proofs.InnerLemmas.{length_separators, length_children}
use Rattle.page_walks.proofs.levels.add_children.Goals as goal

many : (shape : NodeShape) (page : List ℕ) (n : ℕ) → n ≡ length (separators shape page) → length (children shape page) ≡ n + 1
many shape page n is = omega (arith, length_separators shape page, length_children shape page)

one_more : (old kids row new : List ℕ) (i child : ℕ) → i < length kids → child ≡ get_or kids i 0
    → row ≡ old ++ take i kids → new ≡ row ++ child ∷ [] → new ≡ old ++ take (i + 1) kids
one_more old kids row new i child inside is before after =
    after
    ∙ ap (λ (l : List ℕ). l ++ child ∷ []) before
    ∙ append_assoc old (take i kids) (child ∷ [])
    ∙ ap (λ (l : List ℕ). old ++ l) (ap (λ (n : ℕ). take i kids ++ n ∷ []) is ∙ sym (take_more kids i 0 inside))

pub child-requires : goal.child-requires
child-requires c = omega (arith, many c.args.shape c.args.page.now _ c.count-i-end.ensures.value, c.loop-i-test.true)

pub loop-i-preserved : goal.loop-i-preserved
loop-i-preserved c =
    one_more c.args.below.now.items (children c.args.shape c.args.page.now) c.loop-i.below.items c.push_page.new.row.items c.loop-i.i c.child.result
    (omega (arith, many c.args.shape c.args.page.now _ c.count-i-end.ensures.value, c.loop-i-test.true))
    c.child.ensures c.loop-i.invariant c.in_ok-push_page.ensures.added

pub returns-clause-added : goal.returns-clause-added
returns-clause-added c =
    c.loop-i.invariant
    ∙ ap (λ (l : List ℕ). c.args.below.now.items ++ l)
    (take_all c.loop-i.i (children c.args.shape c.args.page.now)
    (omega (arith, many c.args.shape c.args.page.now _ c.count-i-end.ensures.value, c.loop-i-test.false)))

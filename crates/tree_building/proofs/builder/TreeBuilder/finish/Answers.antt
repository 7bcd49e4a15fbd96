use Rattle.std.proofs.Common.{◌≡◌, ◌++◌, [], ◌∷◌, List, length, refl, sym, subst, arith}
use Rattle.std.proofs.lemmas.Grind.{common_steps}
use Rattle.std.specs.Prelude.{IsTrue}
use Rattle.tree_node.specs.Leaf.{leaf_entries}
use Rattle.tree_node.specs.declared.separator.Separator.{Separator}
use Rattle.tree_building.specs.Building.{StandsOver}
use Rattle.tree_building.proofs.NodeLemmas.{all_wide}
use Rattle.tree_building.proofs.BuildLemmas.{finishes, behind_none, no_nodes}
use Rattle.tree_building.proofs.builder.TreeBuilder.finish.Goals as goal

pub returns-then-count-gt0-clause-finishes : goal.returns-then-count-gt0-clause-finishes
returns-then-count-gt0-clause-finishes g c honest sound =
    let self = c.args.self in
    finishes self (g.P.Pages.shown.state c.args.pages.now).live (g.P.Pages.shown.state c.end_with_two.new.pages).live (leaf_entries self.shape self.lower ++ leaf_entries self.shape self.upper)
    (length (leaf_entries self.shape c.end_with_two.new.lower) ∷ length (leaf_entries self.shape c.end_with_two.new.upper) ∷ []) c.end_with_two.result (g.P.Pages.shown.state c.args.pages.now).available (g.P.Pages.shown.state c.end_with_two.new.pages).available (omega arith) refl (c.end_with_two.ensures.stands honest sound)

pub end_with_one-requires-clause-width : goal.end_with_one-requires-clause-width
end_with_one-requires-clause-width g c = all_wide c.args.self.shape.width c.args.self.leaves.items c.args.self.wide

pub returns-then-len-gt0-clause-finishes : goal.returns-then-len-gt0-clause-finishes
returns-then-len-gt0-clause-finishes g c honest sound =
    let self = c.args.self in
    let value = c.count.ensures.value in
    let few = c.if-count-gt0.false in
    finishes self (g.P.Pages.shown.state c.args.pages.now).live (g.P.Pages.shown.state c.end_with_one.new.pages).live (leaf_entries self.shape self.lower)
    (length (leaf_entries self.shape self.lower) ∷ []) c.end_with_one.result (g.P.Pages.shown.state c.args.pages.now).available (g.P.Pages.shown.state c.end_with_one.new.pages).available (omega arith)
    (behind_none (leaf_entries self.shape self.lower) (leaf_entries self.shape self.upper) (omega arith)) (c.end_with_one.ensures.stands honest sound)

pub returns-clause-finishes : goal.returns-clause-finishes
returns-clause-finishes g c honest sound =
    let self = c.args.self in
    let value = c.count.ensures.value in
    let few = c.if-count-gt0.false in
    let none : length self.leaves.items ≡ 0 = grind (arith, common_steps) in
    let start = (g.P.Pages.shown.state c.args.pages.now).live in
    let later = (g.P.Pages.shown.state c.stand_alone.new.pages).live in
    finishes self start later (leaf_entries self.shape self.lower)
    (length (leaf_entries self.shape self.lower) ∷ []) c.stand_alone.result (g.P.Pages.shown.state c.args.pages.now).available (g.P.Pages.shown.state c.stand_alone.new.pages).available (omega arith)
    (behind_none (leaf_entries self.shape self.lower) (leaf_entries self.shape self.upper) (omega arith))
    (subst (λ (l : List Separator). StandsOver self.shape l (leaf_entries self.shape self.lower) (length (leaf_entries self.shape self.lower) ∷ []) self.count c.stand_alone.result
    (g.P.Pages.shown.state c.args.pages.now).available (g.P.Pages.shown.state c.stand_alone.new.pages).available start later
    (IsTrue (g.P.Pages.shown.state c.stand_alone.new.pages).is_sound)) (sym (no_nodes self.leaves.items none)) (c.stand_alone.ensures.stands honest sound))

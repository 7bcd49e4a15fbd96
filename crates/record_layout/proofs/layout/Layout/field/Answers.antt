use Rattle.std.proofs.Common.{◌<◌, ◌≤◌, ◌+◌, length, subst, arith, rules}
use Rattle.std.proofs.lemmas.Grind.{common_steps}
use Rattle.record_layout.specs.Layout.{length_of}
use Rattle.record_layout.proofs.LayoutLemmas.{item_within}
use Rattle.record_layout.proofs.layout.Layout.field.Goals as goal

pub returns-then-is_name-clause-some : goal.returns-then-is_name-clause-some
returns-then-is_name-clause-some c =
    let there : c.loop-item.item-index < length c.self.inside.items.items = first_of (search rules, grind (arith, common_steps)) in
    (item_within c.self.inside.items.items c.loop-item.item-index c.item-item.result c.self.invariant there (first_of (search rules, grind (arith, common_steps)))).0

pub returns-then-is_name-clause-within : goal.returns-then-is_name-clause-within
returns-then-is_name-clause-within c =
    let there : c.loop-item.item-index < length c.self.inside.items.items = first_of (search rules, grind (arith, common_steps)) in
    subst (λ layout. c.item-item.result.field.offset + c.item-item.result.field.length ≤ length_of layout) c.self.view_is (item_within c.self.inside.items.items c.loop-item.item-index c.item-item.result c.self.invariant there (first_of (search rules, grind (arith, common_steps)))).1

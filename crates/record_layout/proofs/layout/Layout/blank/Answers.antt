use Rattle.std.proofs.Common.{◌≡◌, ◌<◌, length, map, arith, rules}
use Rattle.std.proofs.lemmas.Grind.{common_steps}
use Rattle.record_layout.specs.Layout.{item_of, length_of}
use Rattle.record_layout.proofs.LayoutLemmas.{item_within}
use Rattle.record_layout.proofs.layout.Layout.blank.Goals as goal

pub put-requires-clause-within : goal.put-requires-clause-within
put-requires-clause-within c =
    let there : c.loop-item.item-index < length c.self.inside.items.items = first_of (search rules, grind (arith, common_steps)) in
    let within = item_within c.self.inside.items.items c.loop-item.item-index c.item-item.result c.self.invariant there (first_of (search rules, grind (arith, common_steps))) in
    let long : length c.loop-item.area ≡ length_of (map item_of c.self.inside.items.items) = first_of (search rules, grind (arith, common_steps)) in
    omega (arith, within.1, long)

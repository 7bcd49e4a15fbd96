use Rattle.std.proofs.Common.{length, refl, ap, arith}
use Rattle.tree_node.proofs.LeafLemmas.{leaf_room_some}
use Rattle.tree_node.proofs.TableLemmas.{length_table}
use Rattle.tree_building.proofs.NodeLemmas.{all_wide, each_wide}
use Rattle.tree_building.proofs.BuildLemmas.{room_made}
use Rattle.tree_building.proofs.builder.TreeBuilder.write_lower.Goals as goal

pub add_leaf-requires-clause-leaf : goal.add_leaf-requires-clause-leaf
add_leaf-requires-clause-leaf g c =
    let self = c.args.self.now in
    let room = leaf_room_some self.shape in
    let full = c.requires.full in
    let lower = self.pending.order (omega arith) in
    record { leaf = self.pending.first; place = omega arith }

pub invariant_of-self-2 : goal.invariant_of-self-2
invariant_of-self-2 g c =
    let self = c.args.self.now in
    let none = ap length c.write_leaf.ensures.has in
    record {
      pending = record { first = self.pending.second; second = c.write_leaf.ensures.leaf; order = λ some. absurd (omega arith) };
      wide = each_wide self.shape c.add_leaf.new.before.items (c.in_ok-add_leaf.ensures.width (all_wide self.shape.width self.leaves.items self.wide));
      behind = λ some. c.requires.full;
    }

pub returns-clause-makes : goal.returns-clause-makes
returns-clause-makes g c honest sound =
    let self = c.args.self.now in
    let room = leaf_room_some self.shape in
    let full = c.requires.full in
    let adds = c.in_ok-add_leaf.ensures.adds honest sound in
    let enough = self.pending.order (omega arith) in
    let few = self.pending.first.few in
    let many = length_table 16 self.shape.entry self.lower in
    record {
      made = λ entries own b. record {
        answer = room_made (g.P.Pages.shown.state c.args.pages.now).live (g.P.Pages.shown.state c.add_leaf.new.pages).live self _ c.add_leaf.new.before.items entries own b adds.added.answer
            self.pending.first (omega arith) refl refl refl c.write_leaf.ensures.has refl;
        no_damage = tt;
      };
      kept = adds.kept;
      sound = adds.sound;
    }

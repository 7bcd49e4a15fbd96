use Rattle.std.proofs.Common.{◌≡◌, ◌∷◌, ◌++◌, length, take, true, Some, None, refl, ap, sym, ◌∙◌, rules}
use Rattle.std.proofs.lemmas.Bool.{false≢true}
use Rattle.tree_node.specs.declared.shape.NodeShape.{NodeShape}
use Rattle.tree_node.specs.Order.{less}
use Rattle.bplus_tree.specs.Fields.{tree_shape, cursor_key}
use Rattle.file_building.proofs.WalkLemmas.{walk_given, walk_on}
use Rattle.file_building.proofs.walk.TreeWalk.next.Goals as goal

pub returns-then-not-branch : goal.returns-then-not-branch
returns-then-not-branch g c = record {
  gives = λ honest given next rest own at.
      let moved = rw c.if-not-branch.true at (c.in_ok-next.ensures.moved honest (given ++ next ∷ rest) own at.stands at.belongs) in
      let none : None ≡ Some next = walk_given c.args.self.now c.next.new.self _ given next rest own None at moved.answer in
      absurd (cc);
  tree_is = refl;
  long = tt;
  reads = search rules;
}

pub returns-then-rises_to : goal.returns-then-rises_to
returns-then-rises_to g c =
    let tree = c.args.self.now.tree in
    let entry = c.next.new.entry in
    let long = c.rises_to.ensures.long c.if-rises_to.true ∙ ap (λ (s : NodeShape). s.entry) c.shape.ensures in
    record {
      gives = λ honest given next rest own at.
          let moved = rw c.if-not-branch.false at (c.in_ok-next.ensures.moved honest (given ++ next ∷ rest) own at.stands at.belongs) in
          let some : Some entry.items ≡ Some next = walk_given c.args.self.now c.next.new.self _ given next rest own (Some entry) at moved.answer in
          let is : entry.items ≡ next = cc in
          let key = rw c.if-not-branch.false at c.in_ok-next.ensures.key in
          record { answer = (is, walk_on c.args.self.now c.next.new.self _ given next rest own at moved.answer.belongs (key ∙ ap (take (tree_shape tree).width) is)); no_damage = tt };
      tree_is = refl;
      long = long;
      reads = search rules;
    }

pub returns-else-rises_to : goal.returns-else-rises_to
returns-else-rises_to g c =
    let tree = c.args.self.now.tree in
    let shape = tree_shape tree in
    let entry = c.next.new.entry in
    record {
      gives = λ honest given next rest own at.
          let moved = rw c.if-not-branch.false at (c.in_ok-next.ensures.moved honest (given ++ next ∷ rest) own at.stands at.belongs) in
          let some : Some entry.items ≡ Some next = walk_given c.args.self.now c.next.new.self _ given next rest own (Some entry) at moved.answer in
          let is : entry.items ≡ next = cc in
          let long : length entry.items ≡ c.shape.result.entry = ap length is ∙ at.long.0 ∙ sym (ap (λ (s : NodeShape). s.entry) c.shape.ensures) in
          let key : c.key_of-last.result.items ≡ cursor_key c.args.self.now.cursor = c.key_of-last.ensures (rw c.key.ensures at.short) ∙ c.key.ensures in
          let above : less c.key_of-last.result.items (take c.shape.result.width entry.items) ≡ true =
          rw (key, c.shape.ensures, is) at.before.0 in
          absurd (false≢true (sym c.if-rises_to.false ∙ c.rises_to.ensures.rises long above));
      tree_is = refl;
      long = tt;
      reads = search rules;
    }

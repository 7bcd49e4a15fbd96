use Rattle.std.proofs.Common.{◌≡◌, Some, IsSome, IsOk, List, ℕ, refl, ap, sym, subst, ◌∙◌, rules}
use Rattle.tree_node.specs.Leaf.{leaf_entries}
use Rattle.tree_node.specs.Order.{Ascends}
use Rattle.bplus_tree.specs.Remove.{HasTakenInPlaceIf}
use Rattle.bplus_tree.proofs.RemoveLemmas.{take_page}
use Rattle.bplus_tree.proofs.remove.take_in_place.Goals as goal

pub returns : goal.returns
returns g c = record {
  leaves = λ honest sound entries at rises.
      let ok : IsOk c.page_mut.result = rw c.in_ok-bytes.was refl in
      let shape = c.args.shape in
      let old = c.in_ok-bytes.bytes.now in
      let new = c.take_spare.new.page in
      let w = c.page_mut.follows.holds new ok in
      let before = (g.P.Pages.shown.state c.args.pages.now).live in
      let after = (g.P.Pages.shown.state (c.page_mut.follows.lender new)).live in
      let live : IsSome (before c.args.page) = rw at.there refl in
      let shown : before c.args.page ≡ Some old = (rw c.in_ok-bytes.was at (w.3 honest)) live in
      let was : old ≡ at.bytes = cc (shown, at.there) in
      let is : leaf_entries shape old ≡ entries = ap (leaf_entries shape) was ∙ at.holds in
      let taken = c.take_spare.ensures.taken (subst (Ascends shape.width) (sym is) rises) in
      record {
        answer = (
          subst (λ (es : List (List ℕ)). HasTakenInPlaceIf shape before after c.args.page c.args.key.now es c.take_spare.new.to c.take_spare.result) is
              (take_page shape before after c.args.page c.args.key.now old new c.take_spare.new.to c.take_spare.result shown (w.0.live honest live) c.take_spare.ensures.leaf c.take_spare.ensures.same taken),
          rw (w.0.sound honest live) sound,
        );
        no_damage = tt;
      };
  writes = search rules;
}

use Rattle.std.proofs.Common.{ℕ, List, None, subst}
use Rattle.pages.specs.Answer.{IsAnswer}
use Rattle.tree_search.specs.Calls.{first_after}
use Rattle.tree_search.specs.Search.{IsFound}
use Rattle.bplus_tree.proofs.tree.Tree.after.Goals as goal

pub returns : goal.returns
returns g c =
    record {
      found = λ honest entries own stands.
          subst (λ (es : List (List ℕ)). IsAnswer c.next_below.result (IsFound (first_after c.args.self.now.shape.width c.args.key.now) es)) stands.has
          (c.next_below.ensures.found honest stands.value None None stands.whole.stands stands.whole.filled);
      reads = c.next_below.ensures.asks.reads;
    }

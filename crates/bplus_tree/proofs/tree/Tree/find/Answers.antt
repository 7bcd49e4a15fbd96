use Rattle.std.proofs.Common.{ℕ, List, None, subst}
use Rattle.pages.specs.Answer.{IsAnswer}
use Rattle.tree_search.specs.Calls.{entry_of}
use Rattle.tree_search.specs.Search.{IsFound}
use Rattle.bplus_tree.proofs.tree.Tree.find.Goals as goal

pub returns : goal.returns
returns g c =
    record {
      found = λ honest entries own stands.
          subst (λ (es : List (List ℕ)). IsAnswer c.find_below.result (IsFound (entry_of c.args.self.now.shape.width c.args.key.now) es)) stands.has
          (c.find_below.ensures.found honest stands.value None None stands.whole.stands);
      reads = c.find_below.ensures.reads;
    }

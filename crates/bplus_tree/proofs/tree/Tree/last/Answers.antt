use Rattle.std.proofs.Common.{ℕ, List, None, subst}
use Rattle.pages.specs.Answer.{IsAnswer}
use Rattle.tree_search.specs.Calls.{last_of}
use Rattle.tree_search.specs.Search.{IsFound}
use Rattle.bplus_tree.proofs.tree.Tree.last.Goals as goal

pub returns : goal.returns
returns g c =
    record {
      found = λ honest entries own stands.
          subst (λ (es : List (List ℕ)). IsAnswer c.last_below.result (IsFound last_of es)) stands.has
          (c.last_below.ensures.found honest stands.value None None stands.whole.stands stands.whole.filled);
      reads = c.last_below.ensures.reads;
    }

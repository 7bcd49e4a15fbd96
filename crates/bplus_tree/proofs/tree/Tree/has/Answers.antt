use Rattle.std.proofs.Common.{ℕ, List, None, subst}
use Rattle.pages.specs.Answer.{IsAnswer}
use Rattle.tree_search.specs.Calls.{entry_of}
use Rattle.tree_search.specs.Tail.{TellsPresence}
use Rattle.bplus_tree.proofs.tree.Tree.has.Goals as goal

pub returns : goal.returns
returns g c =
    record {
      found = λ honest entries own stands.
          subst (λ (es : List (List ℕ)). IsAnswer c.has_below.result (TellsPresence (entry_of c.args.self.now.shape.width c.args.key.now es))) stands.has
          (c.has_below.ensures.found honest stands.value None None stands.whole.stands);
      reads = c.has_below.ensures.reads;
    }

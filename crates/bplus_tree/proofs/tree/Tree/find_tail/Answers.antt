use Rattle.std.proofs.Common.{ℕ, List, None, subst}
use Rattle.pages.specs.Answer.{IsAnswer}
use Rattle.tree_search.specs.Calls.{entry_of}
use Rattle.tree_search.specs.Tail.{IsTail}
use Rattle.bplus_tree.proofs.tree.Tree.find_tail.Goals as goal

pub returns : goal.returns
returns g c =
    let width = c.args.self.now.shape.width in
    record {
      found = λ honest entries own stands.
          subst (λ (es : List (List ℕ)). IsAnswer c.find_tail.result (IsTail width c.find_tail.new.tail (entry_of width c.args.key.now es))) stands.has
          (c.find_tail.ensures.found honest stands.value None None stands.whole.stands);
      reads = c.find_tail.ensures.reads;
    }

use Rattle.std.proofs.Common.{ℕ, List, subst}
use Rattle.pages.specs.Answer.{IsAnswer}
use Rattle.tree_search.specs.Range.{IsFirst}
use Rattle.bplus_tree.proofs.tree.Tree.first_within.Goals as goal

pub returns : goal.returns
returns g c =
    record {
      found = λ honest entries own stands.
          subst (λ (es : List (List ℕ)). IsAnswer c.first_within.result (IsFirst c.args.self.now.shape.width c.args.from.now c.args.to.now es)) stands.has
          (c.first_within.ensures.found honest stands.value stands.whole.stands stands.whole.filled);
      reads = c.first_within.ensures.reads;
    }

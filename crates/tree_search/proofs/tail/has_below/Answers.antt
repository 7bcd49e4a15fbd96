use Rattle.std.proofs.Common.{arith, rules}
use Rattle.std.proofs.lemmas.Grind.{common_steps}
use Rattle.pages.proofs.CauseLemmas.{caused_since}
use Rattle.tree_search.specs.Tail.{TellsPresence}
use Rattle.tree_search.proofs.TailLemmas.{lead_missed, leaf_told}
use Rattle.tree_search.proofs.tail.has_below.Goals as goal

pub returns-in_err-leaf : goal.returns-in_err-leaf
returns-in_err-leaf g c =
    record {
      found = λ honest.
          lead_missed TellsPresence c.args.shape (g.P.Pages.shown.state c.args.pages.now).live c.args.levels c.args.page c.args.key.now c.from_residual.result _ (c.in_err-leaf.ensures.leaf honest) c.from_residual.ensures.1;
      reads = first_of (search rules, grind (arith, common_steps));
    }

pub returns : goal.returns
returns g c =
    record {
      found = λ honest.
          let old = c.args.pages.now in
          let mid = c.leaf_below.new.pages in
          let h = g.met.P.Pages.writes_honestly mid c.is_in_leaf.new.pages (g.met.P.Pages.reads_writes mid c.is_in_leaf.new.pages c.is_in_leaf.ensures.reads.step) honest in
          leaf_told TellsPresence c.args.shape (g.P.Pages.shown.state old).live c.args.levels c.args.page c.args.key.now c.is_in_leaf.result (g.P.Pages.shown.state mid).live c.in_ok-leaf.leaf
          (g.met.P.Pages.reads_live old mid c.leaf_below.ensures.reads.step h) (c.in_ok-leaf.ensures.leaf h) (c.is_in_leaf.ensures.found honest);
      reads = record {
        cause = caused_since c.is_in_leaf.result _ _ _ _ (g.met.P.Pages.failed_after c.args.pages.now c.leaf_below.new.pages c.is_in_leaf.new.pages (g.met.P.Pages.reads_writes c.args.pages.now c.leaf_below.new.pages c.leaf_below.ensures.reads.step)) (λ none. none) c.is_in_leaf.ensures.reads.cause;
        asked = grind (arith, common_steps);
        step = g.met.P.Pages.reads_on c.args.pages.now c.leaf_below.new.pages c.is_in_leaf.new.pages c.leaf_below.ensures.reads.step c.is_in_leaf.ensures.reads.step;
      };
    }

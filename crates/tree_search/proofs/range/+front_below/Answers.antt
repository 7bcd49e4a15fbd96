use Rattle.std.proofs.Common.{◌≡◌, ◌-◌, suc, arith, rules}
use Rattle.std.proofs.lemmas.Grind.{common_steps}
use Rattle.pages.proofs.CauseLemmas.{caused_since}
use Rattle.tree_search.specs.Range.{told_first}
use Rattle.tree_search.proofs.RangeRowLemmas.{first_fails, fronts_leaf, fronts_fail, fronts_inner}
use Rattle.tree_search.proofs.range.+front_below.Goals as goal

pub returns-then-levels-eq0 : goal.returns-then-levels-eq0
returns-then-levels-eq0 g m c =
    record {
      found = λ honest.
          fronts_leaf c.args.shape ((g.P.Pages.shown.state c.args.pages.now).live) c.args.levels c.args.page c.args.to.now (told_first c.front_of_leaf.new.entry c.front_of_leaf.result) c.if-levels-eq0.true (c.front_of_leaf.ensures.found honest);
      reads = first_of (search rules, grind (arith, common_steps));
    }

pub returns-in_err-child : goal.returns-in_err-child
returns-in_err-child g m c =
    record {
      found = λ honest.
          let one : c.args.levels ≡ suc (c.args.levels - 1) = omega arith in
          fronts_fail c.args.shape ((g.P.Pages.shown.state c.args.pages.now).live) c.args.levels (c.args.levels - 1) c.args.page c.args.to.now one _ (told_first c.args.entry.now c.from_residual.result) (c.in_err-child.ensures.found honest)
          (first_fails c.args.entry.now _ c.from_residual.result c.from_residual.ensures.1);
      reads = first_of (search rules, grind (arith, common_steps));
    }

pub returns : goal.returns
returns g m c =
    record {
      found = λ honest.
          let one : c.args.levels ≡ suc (c.args.levels - 1) = omega arith in
          let h1 = g.met.P.Pages.writes_honestly c.first_child.new.pages c.front_below.new.pages (g.met.P.Pages.reads_writes c.first_child.new.pages c.front_below.new.pages c.front_below.ensures.reads.step) honest in
          fronts_inner c.args.shape ((g.P.Pages.shown.state c.args.pages.now).live) c.args.levels (c.args.levels - 1) c.args.page c.args.to.now one ((g.P.Pages.shown.state c.first_child.new.pages).live) c.in_ok-child.child (told_first c.front_below.new.entry c.front_below.result)
          (g.met.P.Pages.reads_live c.args.pages.now c.first_child.new.pages c.first_child.ensures.reads.step h1) (c.in_ok-child.ensures.found h1) (c.front_below.ensures.found honest);
      reads = record {
        cause = caused_since c.front_below.result _ _ _ _ (g.met.P.Pages.failed_after c.args.pages.now c.first_child.new.pages c.front_below.new.pages (g.met.P.Pages.reads_writes c.args.pages.now c.first_child.new.pages c.first_child.ensures.reads.step)) (λ none. none) c.front_below.ensures.reads.cause;
        asked = grind (arith, common_steps);
        step = g.met.P.Pages.reads_on c.args.pages.now c.first_child.new.pages c.front_below.new.pages c.first_child.ensures.reads.step c.front_below.ensures.reads.step;
      };
    }

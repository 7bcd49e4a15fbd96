use Rattle.std.proofs.Common.{◌≡◌, ◌-◌, suc, arith, rules}
use Rattle.std.proofs.lemmas.Grind.{common_steps}
use Rattle.pages.proofs.CauseLemmas.{caused_since}
use Rattle.tree_search.proofs.SearchLemmas.{last_leaf, last_down_fails, last_inner}
use Rattle.tree_search.proofs.search.+last_below.Goals as goal

pub returns-then-levels-eq0 : goal.returns-then-levels-eq0
returns-then-levels-eq0 g m c =
    record {
      found = λ honest.
          last_leaf c.args.shape ((g.P.Pages.shown.state c.args.pages.now).live) c.args.levels c.args.page c.last_of_leaf.result c.if-levels-eq0.true (c.last_of_leaf.ensures.found honest);
      reads = first_of (search rules, grind (arith, common_steps));
    }

pub returns-in_err-child : goal.returns-in_err-child
returns-in_err-child g m c =
    record {
      found = λ honest.
          let one : c.args.levels ≡ suc (c.args.levels - 1) = omega arith in
          last_down_fails c.args.shape ((g.P.Pages.shown.state c.args.pages.now).live) c.args.levels (c.args.levels - 1) c.args.page one _ c.from_residual.result (c.in_err-child.ensures.found honest) c.from_residual.ensures.1;
      reads = first_of (search rules, grind (arith, common_steps));
    }

pub returns : goal.returns
returns g m c =
    record {
      found = λ honest.
          let one : c.args.levels ≡ suc (c.args.levels - 1) = omega arith in
          let h1 = g.met.P.Pages.writes_honestly c.last_child.new.pages c.last_below.new.pages (g.met.P.Pages.reads_writes c.last_child.new.pages c.last_below.new.pages c.last_below.ensures.reads.step) honest in
          last_inner c.args.shape ((g.P.Pages.shown.state c.args.pages.now).live) c.args.levels (c.args.levels - 1) c.args.page one ((g.P.Pages.shown.state c.last_child.new.pages).live) c.in_ok-child.child c.last_below.result
          (g.met.P.Pages.reads_live c.args.pages.now c.last_child.new.pages c.last_child.ensures.reads.step h1) (c.in_ok-child.ensures.found h1) (c.last_below.ensures.found honest);
      reads = record {
        cause = caused_since c.last_below.result _ _ _ _ (g.met.P.Pages.failed_after c.args.pages.now c.last_child.new.pages c.last_below.new.pages (g.met.P.Pages.reads_writes c.args.pages.now c.last_child.new.pages c.last_child.ensures.reads.step)) (λ none. none) c.last_below.ensures.reads.cause;
        asked = grind (arith, common_steps);
        step = g.met.P.Pages.reads_on c.args.pages.now c.last_child.new.pages c.last_below.new.pages c.last_child.ensures.reads.step c.last_below.ensures.reads.step;
      };
    }

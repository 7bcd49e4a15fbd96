use Rattle.std.proofs.Common.{Bool, Ok, true, false, subst, arith, rules}
use Rattle.std.proofs.lemmas.Grind.{common_steps}
use Rattle.pages.proofs.CauseLemmas.{fails_since}
use Rattle.tree_search.specs.Calls.{entry_of}
use Rattle.tree_search.specs.Search.{FillsFromLeaf}
use Rattle.tree_search.proofs.SearchLemmas.{find_fails, leaf_fails, leaf_found}
use Rattle.tree_search.proofs.search.find_below.Goals as goal

pub returns-in_err-leaf : goal.returns-in_err-leaf
returns-in_err-leaf g c =
    record {
      found = λ honest.
          find_fails c.args.shape ((g.P.Pages.shown.state c.args.pages.now).live) ((g.P.Pages.shown.state c.args.pages.now).live) c.args.levels c.args.page c.args.key.now _ c.from_residual.result
          (c.in_err-leaf.ensures.leaf honest) c.from_residual.ensures.1;
      reads = first_of (search rules, grind (arith, common_steps));
    }

pub returns-in_err-find_in_leaf : goal.returns-in_err-find_in_leaf
returns-in_err-find_in_leaf g c =
    record {
      found = λ honest.
          let old = c.args.pages.now in
          let mid = c.leaf_below.new.pages in
          let h = g.met.P.Pages.writes_honestly mid c.find_in_leaf.new.pages (g.met.P.Pages.reads_writes mid c.find_in_leaf.new.pages c.find_in_leaf.ensures.reads.step) honest in
          leaf_fails c.args.shape (g.P.Pages.shown.state old).live (g.P.Pages.shown.state mid).live c.args.levels c.args.page c.args.key.now c.in_ok-leaf.leaf c.find_in_leaf.new.to
          (g.met.P.Pages.reads_live old mid c.leaf_below.ensures.reads.step h) (c.in_ok-leaf.ensures.leaf h) _ c.from_residual-in_err-find_in_leaf.result (c.in_err-find_in_leaf.ensures.found honest)
          c.from_residual-in_err-find_in_leaf.ensures.1;
      reads = record {
        cause = fails_since c.from_residual-in_err-find_in_leaf.result _ _ _ _ _ c.from_residual-in_err-find_in_leaf.ensures.1 (g.met.P.Pages.failed_after c.args.pages.now c.leaf_below.new.pages c.find_in_leaf.new.pages (g.met.P.Pages.reads_writes c.args.pages.now c.leaf_below.new.pages c.leaf_below.ensures.reads.step)) (λ none. none) c.in_err-find_in_leaf.ensures.reads.cause;
        asked = grind (arith, common_steps);
        step = g.met.P.Pages.reads_on c.args.pages.now c.leaf_below.new.pages c.find_in_leaf.new.pages c.leaf_below.ensures.reads.step c.find_in_leaf.ensures.reads.step;
      };
    }

pub returns-then-branch : goal.returns-then-branch
returns-then-branch g c =
    record {
      found = λ honest.
          let old = c.args.pages.now in
          let mid = c.leaf_below.new.pages in
          let h = g.met.P.Pages.writes_honestly mid c.find_in_leaf.new.pages (g.met.P.Pages.reads_writes mid c.find_in_leaf.new.pages c.find_in_leaf.ensures.reads.step) honest in
          leaf_found c.args.shape (g.P.Pages.shown.state old).live (g.P.Pages.shown.state mid).live c.args.levels c.args.page c.args.key.now c.in_ok-leaf.leaf c.find_in_leaf.new.to
          (g.met.P.Pages.reads_live old mid c.leaf_below.ensures.reads.step h) (c.in_ok-leaf.ensures.leaf h) true
          (subst (λ (b : Bool). FillsFromLeaf c.args.shape (g.P.Pages.shown.state mid).live c.in_ok-leaf.leaf (entry_of c.args.shape.width c.args.key.now) c.find_in_leaf.new.to (Ok b)) c.if-branch.true
          (c.in_ok-find_in_leaf.ensures.found honest));
      reads = record {
        cause = tt;
        asked = grind (arith, common_steps);
        step = g.met.P.Pages.reads_on c.args.pages.now c.leaf_below.new.pages c.find_in_leaf.new.pages c.leaf_below.ensures.reads.step c.find_in_leaf.ensures.reads.step;
      };
    }

pub returns : goal.returns
returns g c =
    record {
      found = λ honest.
          let old = c.args.pages.now in
          let mid = c.leaf_below.new.pages in
          let h = g.met.P.Pages.writes_honestly mid c.find_in_leaf.new.pages (g.met.P.Pages.reads_writes mid c.find_in_leaf.new.pages c.find_in_leaf.ensures.reads.step) honest in
          leaf_found c.args.shape (g.P.Pages.shown.state old).live (g.P.Pages.shown.state mid).live c.args.levels c.args.page c.args.key.now c.in_ok-leaf.leaf c.find_in_leaf.new.to
          (g.met.P.Pages.reads_live old mid c.leaf_below.ensures.reads.step h) (c.in_ok-leaf.ensures.leaf h) false
          (subst (λ (b : Bool). FillsFromLeaf c.args.shape (g.P.Pages.shown.state mid).live c.in_ok-leaf.leaf (entry_of c.args.shape.width c.args.key.now) c.find_in_leaf.new.to (Ok b)) c.if-branch.false
          (c.in_ok-find_in_leaf.ensures.found honest));
      reads = record {
        cause = tt;
        asked = grind (arith, common_steps);
        step = g.met.P.Pages.reads_on c.args.pages.now c.leaf_below.new.pages c.find_in_leaf.new.pages c.leaf_below.ensures.reads.step c.find_in_leaf.ensures.reads.step;
      };
    }

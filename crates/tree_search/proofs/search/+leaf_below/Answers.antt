use Rattle.std.proofs.Common.{◌≡◌, ◌-◌, suc, arith}
use Rattle.tree_search.proofs.SearchLemmas.{lead_leaf, lead_fails, lead_inner}
use Rattle.tree_search.proofs.search.+leaf_below.Goals as goal

pub returns-then-levels-eq0-clause-leaf : goal.returns-then-levels-eq0-clause-leaf
returns-then-levels-eq0-clause-leaf g m c honest = lead_leaf c.args.shape ((g.P.Pages.shown.state c.args.pages.now).live) c.args.levels c.args.page c.args.key.now c.if-levels-eq0.true

pub returns-in_err-down-clause-leaf : goal.returns-in_err-down-clause-leaf
returns-in_err-down-clause-leaf g m c honest =
    let one : c.args.levels ≡ suc (c.args.levels - 1) = omega arith in
    lead_fails c.args.shape ((g.P.Pages.shown.state c.args.pages.now).live) c.args.levels (c.args.levels - 1) c.args.page c.args.key.now one _ c.from_residual.result (c.in_err-down.ensures.found honest) c.from_residual.ensures.1

pub returns-clause-leaf : goal.returns-clause-leaf
returns-clause-leaf g m c honest =
    let one : c.args.levels ≡ suc (c.args.levels - 1) = omega arith in
    let h1 = g.met.P.Pages.writes_honestly c.descend.new.pages c.leaf_below.new.pages (g.met.P.Pages.reads_writes c.descend.new.pages c.leaf_below.new.pages c.leaf_below.ensures.reads.step) honest in
    lead_inner c.args.shape ((g.P.Pages.shown.state c.args.pages.now).live) c.args.levels (c.args.levels - 1) c.args.page c.args.key.now one ((g.P.Pages.shown.state c.descend.new.pages).live) c.in_ok-down.down c.leaf_below.result
    (g.met.P.Pages.reads_live c.args.pages.now c.descend.new.pages c.descend.ensures.reads.step h1) (c.in_ok-down.ensures.found h1) (c.leaf_below.ensures.leaf honest)

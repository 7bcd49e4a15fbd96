use Rattle.std.proofs.Common.{◌≡◌, ◌-◌, suc, arith}
use Rattle.tree_search.proofs.SearchLemmas.{first_leaf, first_down_fails, first_inner}
use Rattle.tree_search.proofs.SpotLemmas.{spots_first_leaf, spots_first_inner, spots_first_fails}
use Rattle.tree_search.proofs.search.+first_below.Goals as goal

pub returns-then-levels-eq0-clause-first : goal.returns-then-levels-eq0-clause-first
returns-then-levels-eq0-clause-first g m c honest =
    first_leaf c.args.shape ((g.P.Pages.shown.state c.args.pages.now).live) c.args.levels c.args.page c.first_of_leaf.result c.if-levels-eq0.true (c.first_of_leaf.ensures.looks.found honest)

pub returns-in_err-child-clause-first : goal.returns-in_err-child-clause-first
returns-in_err-child-clause-first g m c honest =
    let one : c.args.levels ≡ suc (c.args.levels - 1) = omega arith in
    first_down_fails c.args.shape ((g.P.Pages.shown.state c.args.pages.now).live) c.args.levels (c.args.levels - 1) c.args.page one _ c.from_residual.result (c.in_err-child.ensures.found honest) c.from_residual.ensures.1

pub returns-clause-first : goal.returns-clause-first
returns-clause-first g m c honest =
    let one : c.args.levels ≡ suc (c.args.levels - 1) = omega arith in
    let h1 = g.met.P.Pages.writes_honestly c.first_child.new.pages c.first_below.new.pages (g.met.P.Pages.reads_writes c.first_child.new.pages c.first_below.new.pages c.first_below.ensures.reads.step) honest in
    first_inner c.args.shape ((g.P.Pages.shown.state c.args.pages.now).live) c.args.levels (c.args.levels - 1) c.args.page one ((g.P.Pages.shown.state c.first_child.new.pages).live) c.in_ok-child.child c.first_below.result
    (g.met.P.Pages.reads_live c.args.pages.now c.first_child.new.pages c.first_child.ensures.reads.step h1) (c.in_ok-child.ensures.found h1) (c.first_below.ensures.first honest)

pub returns-then-levels-eq0-clause-spot : goal.returns-then-levels-eq0-clause-spot
returns-then-levels-eq0-clause-spot g m c honest =
    spots_first_leaf c.args.shape ((g.P.Pages.shown.state c.args.pages.now).live) c.args.levels c.args.page c.first_of_leaf.new.spot c.first_of_leaf.result c.if-levels-eq0.true (c.first_of_leaf.ensures.spot honest)

pub returns-in_err-child-clause-spot : goal.returns-in_err-child-clause-spot
returns-in_err-child-clause-spot g m c honest =
    spots_first_fails c.args.shape ((g.P.Pages.shown.state c.args.pages.now).live) c.args.levels c.args.page _ _ c.from_residual.result c.from_residual.ensures.1

pub returns-clause-spot : goal.returns-clause-spot
returns-clause-spot g m c honest =
    let one : c.args.levels ≡ suc (c.args.levels - 1) = omega arith in
    let h1 = g.met.P.Pages.writes_honestly c.first_child.new.pages c.first_below.new.pages (g.met.P.Pages.reads_writes c.first_child.new.pages c.first_below.new.pages c.first_below.ensures.reads.step) honest in
    spots_first_inner c.args.shape ((g.P.Pages.shown.state c.args.pages.now).live) c.args.levels (c.args.levels - 1) c.args.page c.first_below.new.spot one ((g.P.Pages.shown.state c.first_child.new.pages).live) c.in_ok-child.child c.first_below.result
    (g.met.P.Pages.reads_live c.args.pages.now c.first_child.new.pages c.first_child.ensures.reads.step h1) (c.in_ok-child.ensures.found h1) (c.first_below.ensures.spot honest)

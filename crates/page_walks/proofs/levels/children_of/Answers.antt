use Rattle.std.proofs.Common.{◌≡◌, ◌∙◌, ◌+◌, ◌++◌, arith, ap, sym, suc, slice_index_or, take, List, ℕ}
use Rattle.pages.specs.Each.{Each}
use Rattle.pages.proofs.RefusedLemmas.{handed_on}
use Rattle.pages.proofs.SourceLemmas.{there_is}
use Rattle.tree_node.specs.Inner.{children}
use Rattle.page_walks.specs.Rows.{IsInnerIn, children_in}
use Rattle.page_walks.proofs.RowLemmas.{inner_of_row, children_before}
use Rattle.page_walks.proofs.levels.children_of.Goals as goal

pub returns-in_err-page-clause-refused : goal.returns-in_err-page-clause-refused
returns-in_err-page-clause-refused g c = λ list has.
    handed_on (IsInnerIn c.args.shape list (slice_index_or c.args.row.now c.loop-n.n-index 0)) (Each (IsInnerIn c.args.shape list) c.args.row.now) c.from_residual.result _ c.from_residual.ensures.1
    (λ all. inner_of_row c.args.shape list c.args.row.now c.loop-n.n-index all c.loop-n-test.true)
    (c.in_err-page.ensures.refused list has)

pub loop-n-preserved : goal.loop-n-preserved
loop-n-preserved g c = record {
  below = λ list has.
      (let k = c.loop-n.n-index in
      let row = c.args.row.now in
      let at = there_is list (slice_index_or row k 0) c.in_ok-page.page (c.in_ok-page.ensures.there list has) in
      let up : k + 1 ≡ suc k = omega arith in
      c.in_ok-add_children.ensures.added
      ∙ ap (λ (front : List ℕ). front ++ children c.args.shape c.in_ok-page.page) (c.loop-n.invariant.below list (c.inner_page.ensures.before list has))
      ∙ ap (λ (page : List ℕ). children_in c.args.shape list (take k row) ++ children c.args.shape page) (sym at.1)
      ∙ children_before c.args.shape list row k (k + 1) up c.loop-n-test.true);
  before = λ list has. c.loop-n.invariant.before list (c.inner_page.ensures.before list has);
}

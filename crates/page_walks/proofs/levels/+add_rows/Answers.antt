use Rattle.std.proofs.Common.{◌≡◌, ◌-◌, ◌∙◌, ◌++◌, ◌∷◌, [], ℕ, suc, List, arith, ap, sym, subst}
use Rattle.pages.specs.Each.{Each}
use Rattle.page_walks.specs.declared.level.Level.{Level}
use Rattle.page_walks.specs.Rows.{AddsRows, IsInnerIn, children_in, inner_level}
use Rattle.page_walks.proofs.RowLemmas.{adds_below, adds_none, inner_row}
use Rattle.page_walks.proofs.levels.+add_rows.Goals as goal

pub returns-in_err-below-clause-added : goal.returns-in_err-below-clause-added
returns-in_err-below-clause-added g m c = λ list has.
    adds_none c.args.shape list c.args.height c.args.row.items c.args.levels.now.items c.args.levels.now.items (Each (IsInnerIn c.args.shape list) c.deref-2.result.now)
    c.from_residual-in_err-below.result _ c.from_residual-in_err-below.ensures.1
    (λ nodes. subst (Each (IsInnerIn c.args.shape list)) (sym c.deref-2.ensures.value) (inner_row c.args.shape list c.args.height c.args.row.items c.if-height-eq0.false nodes))
    (c.in_err-below.ensures.refused list has)

pub returns-clause-added : goal.returns-clause-added
returns-clause-added g m c = λ list has.
    let shape = c.args.shape in
    let row = c.args.row.items in
    let old = c.args.levels.now.items in
    let mid = c.push_level-2.new.levels.items in
    let new = c.add_rows.new.levels.items in
    let below : c.in_ok-below.below.items ≡ children_in shape list row =
    c.in_ok-below.ensures.children list (c.add_rows.ensures.before list has) ∙ ap (children_in shape list) c.deref-2.ensures.value in
    let level : c.inner_counts.result ≡ inner_level shape list row =
    c.inner_counts.ensures list (c.deref-4.ensures.value ∙ below ∙ sym (ap (children_in shape list) c.deref-3.ensures.value)) ∙ ap (inner_level shape list) c.deref-3.ensures.value in
    let is : mid ≡ old ++ inner_level shape list row ∷ [] = c.in_ok-push_level-2.ensures.added ∙ ap (λ (one : Level). old ++ one ∷ []) level in
    let one : suc (c.args.height - 1) ≡ c.args.height = omega arith in
    subst (λ (n : ℕ). AddsRows shape list n row old new c.add_rows.result) one
    (adds_below shape list (c.args.height - 1) row old mid new c.add_rows.result is
    (subst (λ (b : List ℕ). AddsRows shape list (c.args.height - 1) b mid new c.add_rows.result) below (c.add_rows.ensures.added list has)))

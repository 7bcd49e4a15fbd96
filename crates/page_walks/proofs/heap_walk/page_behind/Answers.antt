use Rattle.std.proofs.Common.{rules, ◌∙◌, sym, inr}
use Rattle.pages.specs.PageList.{pages_in}
use Rattle.pages.proofs.SourceLemmas.{there_is}
use Rattle.record_heap.specs.Walk.{IsHeapPageAt}
use Rattle.page_walks.proofs.heap_walk.page_behind.Goals as goal

pub returns-then-ne-clause-told : goal.returns-then-ne-clause-told
returns-then-ne-clause-told g c = λ list has.
    let at_page = sym (c.page.ensures.page list has) ∙ c.in-Some.is in
    let here = there_is list c.args.n c.in-Some.page at_page in
    let never : IsHeapPageAt (pages_in list) c.args.n → ⊥ = search rules in
    inr (c.of_page-then-ne.ensures, here.0, never)

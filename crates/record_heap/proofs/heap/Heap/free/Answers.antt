use Rattle.std.proofs.Common.{◌≡◌, Some, None, rules}
use Rattle.record_heap.specs.Slot.{behind_in}
use Rattle.record_heap.proofs.OrderLemmas.{frees_in_order}
use Rattle.record_heap.proofs.HeapLemmas.{frees_ok, rewriting_fails}
use Rattle.record_heap.proofs.heap.Heap.free.Goals as goal

pub returns-in_err-link : goal.returns-in_err-link
returns-in_err-link g c =
    let state = g.P.Pages.shown.state in
    let set = rewriting_fails c.args.self.now c.args.self.now (state c.args.pages.now) (state c.link.new.pages) c.args.place None
    (λ u slot. behind_in slot ≡ Some c.args.self.now.free) c.in_err-link.field-0.0 c.from_residual.result c.in_err-link.ensures.changed c.from_residual.ensures.1 in
    search (rules, set)

pub returns : goal.returns
returns g c =
    let state = g.P.Pages.shown.state in
    let set = frees_ok c.in_ok-link.field-0 c.args.self.now (state c.args.pages.now) (state c.link.new.pages) c.args.place c.in_ok-link.ensures.changed in
    let order = frees_in_order c.in_ok-link.field-0 c.args.self.now (state c.args.pages.now) (state c.link.new.pages) c.args.place c.in_ok-link.ensures.changed in
    search (rules, set, order)

use Rattle.std.proofs.Common.{◌≡◌, ◌++◌, Some, rules}
use Rattle.record_heap.specs.Slot.{used_in}
use Rattle.record_heap.proofs.OrderLemmas.{sets_in_order}
use Rattle.record_heap.proofs.HeapLemmas.{sets_ok, rewriting_fails}
use Rattle.record_heap.proofs.heap.Heap.set.Goals as goal

pub returns-in_err-fill : goal.returns-in_err-fill
returns-in_err-fill g c =
    let state = g.P.Pages.shown.state in
    let bytes = c.args.stamps.now ++ c.args.record.now in
    let set = rewriting_fails c.args.self.now c.args.self.now (state c.args.pages.now) (state c.fill.new.pages) c.args.place (Some bytes)
    (λ u slot. used_in c.args.self.now.shape slot ≡ Some bytes) c.in_err-fill.field-0.0 c.from_residual.result c.in_err-fill.ensures.changed c.from_residual.ensures.1 in
    search (rules, set)

pub returns : goal.returns
returns g c =
    let state = g.P.Pages.shown.state in
    let bytes = c.args.stamps.now ++ c.args.record.now in
    let set = sets_ok c.in_ok-fill.field-0 c.args.self.now (state c.args.pages.now) (state c.fill.new.pages) c.args.place bytes c.in_ok-fill.ensures.changed in
    let order = sets_in_order c.in_ok-fill.field-0 c.args.self.now (state c.args.pages.now) (state c.fill.new.pages) c.args.place
    (λ u slot. used_in c.args.self.now.shape slot ≡ Some bytes) c.in_ok-fill.ensures.changed in
    search (rules, set, order)

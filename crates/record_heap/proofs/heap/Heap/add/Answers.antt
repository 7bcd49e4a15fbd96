use Rattle.std.proofs.Common.{◌++◌, rules}
use Rattle.record_heap.proofs.OrderLemmas.{adds_in_order}
use Rattle.record_heap.proofs.HeapLemmas.{adds_ok, room_fails, refill_fails}
use Rattle.record_heap.proofs.heap.Heap.add.Goals as goal

pub returns-in_err-make_room : goal.returns-in_err-make_room
returns-in_err-make_room g c =
    let state = g.P.Pages.shown.state in
    let added = room_fails c.args.self.now c.make_room.new.self c.make_room.new.self (state c.args.pages.now)
    (state c.make_room.new.pages) (c.args.stamps.now ++ c.args.record.now) c.in_err-make_room.field-0.0
    c.from_residual.result c.in_err-make_room.ensures.room c.from_residual.ensures.1 in
    search (rules, added)

pub returns-in_err-self : goal.returns-in_err-self
returns-in_err-self g c =
    let state = g.P.Pages.shown.state in
    let honestly = g.met.P.Pages.writes_honestly c.make_room.new.pages c.refill.new.pages c.refill.ensures.writes.step in
    let added = refill_fails c.in_ok-make_room.field-0 c.args.self.now c.make_room.new.self c.make_room.new.self
    (state c.args.pages.now) (state c.make_room.new.pages) (state c.refill.new.pages) (c.args.stamps.now ++ c.args.record.now)
    c.in_err-self.field-0.0 c.from_residual-in_err-self.result honestly c.in_ok-make_room.ensures.room
    c.in_err-self.ensures.changed c.from_residual-in_err-self.ensures.1 in
    search (rules, added, g.met.P.Pages.writes_on, g.met.P.Pages.failed_after)

pub returns : goal.returns
returns g c =
    let before = g.P.Pages.shown.state c.args.pages.now in
    let middle = g.P.Pages.shown.state c.make_room.new.pages in
    let after = g.P.Pages.shown.state c.refill.new.pages in
    let bytes = c.args.stamps.now ++ c.args.record.now in
    let honestly = g.met.P.Pages.writes_honestly c.make_room.new.pages c.refill.new.pages c.refill.ensures.writes.step in
    let added = adds_ok c.in_ok-make_room.field-0 c.args.self.now c.make_room.new.self before middle after bytes
    c.in_ok-self.field-0 honestly c.in_ok-make_room.ensures.room c.in_ok-self.ensures.changed in
    let order = adds_in_order c.in_ok-make_room.field-0 c.args.self.now c.make_room.new.self before middle after bytes
    c.in_ok-self.field-0 honestly c.in_ok-make_room.ensures.room c.in_ok-make_room.ensures.order c.in_ok-self.ensures.changed in
    search (rules, added, order, g.met.P.Pages.writes_on)

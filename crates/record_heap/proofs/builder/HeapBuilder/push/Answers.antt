use Rattle.std.proofs.Common.{◌++◌, ◌∙◌, rules}
use Rattle.record_heap.proofs.FillingLemmas.{fills_not, fills_put}
use Rattle.record_heap.proofs.builder.HeapBuilder.push.Goals as goal

pub returns-in_err-make_room : goal.returns-in_err-make_room
returns-in_err-make_room g c = record {
  pushed = λ honest sound slots own places f.
      fills_not c.args.self.now (g.P.Pages.shown.state c.args.pages.now) (g.P.Pages.shown.state c.make_room.new.pages) c.from_residual.result c.in_err-make_room.field-0.0 _ _
      (c.in_err-make_room.ensures.makes.made honest sound slots own places f) c.from_residual.ensures.1;
  shape = c.make_room.ensures.makes.shape;
  few = c.make_room.ensures.makes.few;
  writes = search rules;
}

pub returns : goal.returns
returns g c =
    let makes = c.in_ok-make_room.ensures.makes in
    record {
      pushed = λ honest sound slots own places f.
          fills_put c.args.self.now c.make_room.new.self c.put.new.self (g.P.Pages.shown.state c.args.pages.now) (g.P.Pages.shown.state c.make_room.new.pages) slots own places
          (c.args.stamps.now ++ c.args.record.now) c.put.result (makes.made honest sound slots own places f)
          (λ on filling. c.put.ensures.put (g.P.Pages.shown.state c.make_room.new.pages).live slots on places filling);
      shape = c.put.ensures.shape ∙ makes.shape;
      few = makes.few;
      writes = search rules;
    }

use Rattle.std.proofs.Common.{rules, sym, subst, lit<}
use Rattle.serve.specs.Files.{IsOrder}
use Rattle.serve.proofs.OrderLemmas.{order_with, order_has_room}
use Rattle.serve.proofs.opening_order.OpeningOrder.note.Goals as goal

pub push-requires : goal.push-requires
push-requires c = (lit< tt, order_has_room c.args.number c.self.inside.numbers.items c.self.invariant (search rules) c.requires)

pub invariant_of-self : goal.invariant_of-self
invariant_of-self c =
    subst IsOrder (sym c.push.ensures.items) (order_with c.args.number c.self.inside.numbers.items c.self.invariant (search rules) c.requires)

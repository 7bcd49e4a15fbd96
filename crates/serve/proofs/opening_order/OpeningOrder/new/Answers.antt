use Rattle.std.proofs.Common.{sym, subst}
use Rattle.serve.specs.Files.{IsOrder}
use Rattle.serve.proofs.OrderLemmas.{empty_order}
use Rattle.serve.proofs.opening_order.OpeningOrder.new.Goals as goal

pub invariant_of-result : goal.invariant_of-result
invariant_of-result c = subst IsOrder (sym c.new.ensures) empty_order

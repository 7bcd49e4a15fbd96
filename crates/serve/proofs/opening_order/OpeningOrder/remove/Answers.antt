use Rattle.std.proofs.Common.{rules, sym, ap, ◌∙◌, subst, not, eqb}
use Rattle.arrayvec.proofs.ArrayVecLemmas.{filter-from_retain}
use Rattle.serve.specs.Files.{IsOrder, without}
use Rattle.serve.proofs.OrderLemmas.{order_without}
use Rattle.serve.proofs.opening_order.OpeningOrder.remove.Goals as goal

pub returns : goal.returns
returns c = filter-from_retain _ (λ other. not (eqb c.args.number other)) _ (λ x b f' y k. search rules) _ _ c.retain.ensures.filtered
    ∙ ap (without c.args.number) (search rules)

pub invariant_of-self : goal.invariant_of-self
invariant_of-self c =
    subst IsOrder (sym (filter-from_retain _ (λ other. not (eqb c.args.number other)) _ (λ x b f' y k. search rules) _ _ c.retain.ensures.filtered))
    (order_without c.args.number c.self.inside.numbers.items c.self.invariant)

use Rattle.std.proofs.Common.{inr, refl, sym, ◌∙◌}
use Rattle.page_walks.proofs.SlotWalkLemmas.{used_found}
use Rattle.page_walks.proofs.heap_walk.mark_slot.Goals as goal

pub returns-else-not-is_used-clause-marked : goal.returns-else-not-is_used-clause-marked
returns-else-not-is_used-clause-marked c = inr (used_found c.args.shape c.args.bytes.now (sym c.is_used.ensures ∙ c.if-not-is_used.false), refl)

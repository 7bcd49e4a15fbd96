use Rattle.std.proofs.Common.{sym, subst, ◌∙◌}
use Rattle.salvaged_records.specs.Writing.{HoldsSlots}
use Rattle.salvaged_records.proofs.VisitLemmas.{of_other_page}
use Rattle.salvaged_records.proofs.WriteLemmas.{holds_none}
use Rattle.salvaged_records.proofs.slot_lines.hold_page.Goals as goal

pub returns-then-not-is_heap_page-clause-held : goal.returns-then-not-is_heap_page-clause-held
returns-then-not-is_heap_page-clause-held g c =
    subst (HoldsSlots c.args.list.now (g.W.Write.contents c.args.out.now) (g.W.Write.contents c.args.out.now) c.args.held.now c.args.held.now)
    (sym (of_other_page c.args.shape c.args.page.now c.args.n (sym c.is_heap_page.ensures ∙ c.if-not-is_heap_page.true)))
    (holds_none c.args.list.now (g.W.Write.contents c.args.out.now) c.args.held.now c.requires.room)

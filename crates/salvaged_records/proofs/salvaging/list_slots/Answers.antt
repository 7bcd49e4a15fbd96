use Rattle.std.proofs.Common.{refl, sym}
use Rattle.std.proofs.lemmas.Result.{IfOk-weaker}
use Rattle.salvaged_records.proofs.salvaging.list_slots.Goals as goal

pub returns-clause-slots : goal.returns-clause-slots
returns-clause-slots g c =
    IfOk-weaker c.salvage_slots.result _ _ (λ counts slots. record { pages = c.args.pages.now; all_pages = c.requires.pages; slots = slots })
    (c.salvage_slots.ensures.slots c.args.pages.now (sym (c.salvage_slots.ensures.before _ refl)))
